-- Comments: where they end.
use Rattle.std.proofs.Common.{◌≡◌, ◌+◌, ◌&&◌, ℕ, suc, Bool, true, false, cond, List, [], ◌∷◌, ◌++◌, length, drop, Some, None, Option, refl, sym, ap, subst, arith, eqb, eqb-true}
use Rattle.std.specs.Prelude.{not}
use Rattle.std.specs.Option.{option_map}
use Rattle.mspec_lexer.specs.Tokens.{BeginsLine, HasNoEnd, is_line_end}
use Rattle.mspec_lexer.specs.LexerParts.{closed_len, line_len}

-- ---- lines

stops_by : (b : ℕ) (bytes : List ℕ) (v : Bool) → is_line_end b ≡ v → BeginsLine (drop (line_len bytes) bytes) → BeginsLine (drop (cond (not v) (1 + line_len bytes) 0) (b ∷ bytes))
stops_by b bytes true e h = e
stops_by b bytes false e h = let more : 1 + line_len bytes ≡ suc (line_len bytes) = omega arith in rw more h

pub stops : (bytes : List ℕ) → BeginsLine (drop (line_len bytes) bytes)
stops [] = tt
stops (b ∷ bytes) = stops_by b bytes (is_line_end b) refl (stops bytes)

-- ---- ends

abbrev BeginsSlash : List ℕ → Type 0
BeginsSlash bytes = (more : List ℕ) × (bytes ≡ 47 ∷ more)

pub empty_has_none : HasNoEnd []
empty_has_none [] behind e = cc
empty_has_none (f ∷ front) behind e = cc

pub star_has_none : HasNoEnd (42 ∷ [])
star_has_none [] behind e = cc
star_has_none (f ∷ []) behind e = cc
star_has_none (f ∷ g ∷ front) behind e = cc

pub one_before : (a : ℕ) (bytes : List ℕ) → HasNoEnd bytes → (a ≡ 42 → BeginsSlash bytes → ⊥) → HasNoEnd (a ∷ bytes)
one_before a bytes h k [] behind e = k (cc) (behind, cc)
one_before a bytes h k (f ∷ front) behind e = h front behind (cc)

-- the first `*/` ends with the byte that has this number, from 1
pub record Ends (bytes : List ℕ) (n : ℕ) : Type 0 where
  pub inner : List ℕ
  pub behind : List ℕ
  pub split : bytes ≡ inner ++ (42 ∷ 47 ∷ behind)
  pub len : length inner + 2 ≡ n
  pub first : HasNoEnd (inner ++ 42 ∷ [])

star_no_slash : (star slash : ℕ) → star ≡ 42 → slash ≡ 47 → star ≡ slash → ⊥
star_no_slash star slash e h k = omega arith

begins_too : (inner behind : List ℕ) → BeginsSlash (inner ++ 42 ∷ []) → BeginsSlash (inner ++ (42 ∷ 47 ∷ behind))
begins_too [] behind (more, e) = absurd (star_no_slash 42 47 refl refl (cc))
begins_too (c ∷ inner) behind (more, e) = (inner ++ (42 ∷ 47 ∷ behind), let same : c ≡ 47 = cc in cc)

one_earlier : (a : ℕ) (bytes : List ℕ) (n : ℕ) → Ends bytes n → (a ≡ 42 → BeginsSlash bytes → ⊥) → Ends (a ∷ bytes) (suc n)
one_earlier a bytes n ends k = record {
  inner = a ∷ ends.inner;
  behind = ends.behind;
  split = ap (λ (l : List ℕ). a ∷ l) ends.split;
  len = omega (arith, ends.len);
  first = one_before a (ends.inner ++ 42 ∷ []) ends.first
      (λ e slash. k e (subst BeginsSlash (sym ends.split) (begins_too ends.inner ends.behind slash)));
}

abbrev behind_star : Bool → List ℕ → List ℕ
behind_star true bytes = 42 ∷ bytes
behind_star false bytes = bytes

abbrev behind_len : Bool → ℕ → ℕ
behind_len true n = suc n
behind_len false n = n

next_byte : (b : ℕ) (bytes : List ℕ) (n : ℕ) (v : Bool) → eqb b 42 ≡ v → Ends (behind_star v bytes) (behind_len v n) → Ends (b ∷ bytes) (suc n)
next_byte b bytes n true e ends = subst (λ c. Ends (c ∷ bytes) (suc n)) (sym (eqb-true b 42 e)) ends
next_byte b bytes n false e ends = one_earlier b bytes n ends (λ star. let no : eqb b 42 ≡ true = subst (λ c. eqb c 42 ≡ true) (sym star) refl in cc)

not_slash : (b : ℕ) (bytes : List ℕ) → eqb b 47 ≡ false → BeginsSlash (b ∷ bytes) → ⊥
not_slash b bytes e (more, h) = let same : b ≡ 47 = cc in let no : eqb b 47 ≡ true = subst (λ c. eqb c 47 ≡ true) (sym same) refl in cc

behind_next : (b : ℕ) (bytes : List ℕ) (n : ℕ) (star : Bool) → star && eqb b 47 ≡ false → Ends (b ∷ bytes) (suc n) → Ends (behind_star star (b ∷ bytes)) (behind_len star (suc n))
behind_next b bytes n true e ends = one_earlier 42 (b ∷ bytes) (suc n) ends (λ _ slash. not_slash b bytes e slash)
behind_next b bytes n false e ends = ends

pub closed_some : (star : Bool) (bytes : List ℕ) (n : ℕ) → closed_len star bytes ≡ Some n → Ends (behind_star star bytes) (behind_len star n)
closed_some star [] n h = cc
closed_some star (b ∷ bytes) n h = closed_by star b bytes n (star && eqb b 47) refl h (λ m. closed_some (eqb b 42) bytes m)
  where
    at_slash : (star : Bool) (b : ℕ) (bytes : List ℕ) → star && eqb b 47 ≡ true → Ends (behind_star star (b ∷ bytes)) (behind_len star 1)
    at_slash true b bytes e = record {
      inner = [];
      behind = bytes;
      split = ap (λ c. 42 ∷ c ∷ bytes) (eqb-true b 47 e);
      len = omega arith;
      first = star_has_none;
    }
    at_slash false b bytes e = cc

    further : (star : Bool) (b : ℕ) (bytes : List ℕ) (n : ℕ) (m : Option ℕ) → star && eqb b 47 ≡ false → closed_len (eqb b 42) bytes ≡ m → option_map (λ k. suc k) m ≡ Some n → ((k : ℕ) → closed_len (eqb b 42) bytes ≡ Some k → Ends (behind_star (eqb b 42) bytes) (behind_len (eqb b 42) k)) → Ends (behind_star star (b ∷ bytes)) (behind_len star n)
    further star b bytes n None e m h rest = cc
    further star b bytes n (Some k) e m h rest =
        let same : suc k ≡ n = cc in
        subst (λ l. Ends (behind_star star (b ∷ bytes)) (behind_len star l)) same
        (behind_next b bytes k star e (next_byte b bytes k (eqb b 42) refl (rest k m)))

    closed_by : (star : Bool) (b : ℕ) (bytes : List ℕ) (n : ℕ) (v : Bool) → star && eqb b 47 ≡ v → cond v (Some 1) (option_map (λ k. suc k) (closed_len (eqb b 42) bytes)) ≡ Some n → ((k : ℕ) → closed_len (eqb b 42) bytes ≡ Some k → Ends (behind_star (eqb b 42) bytes) (behind_len (eqb b 42) k)) → Ends (behind_star star (b ∷ bytes)) (behind_len star n)
    closed_by star b bytes n true e h rest =
        let same : 1 ≡ n = cc in
        subst (λ l. Ends (behind_star star (b ∷ bytes)) (behind_len star l)) same (at_slash star b bytes e)
    closed_by star b bytes n false e h rest = further star b bytes n (closed_len (eqb b 42) bytes) e refl h rest

-- ---- no end

no_end_at : (b : ℕ) (bytes : List ℕ) (v : Bool) → eqb b 42 ≡ v → HasNoEnd (behind_star v bytes) → HasNoEnd (b ∷ bytes)
no_end_at b bytes true e h = subst (λ c. HasNoEnd (c ∷ bytes)) (sym (eqb-true b 42 e)) h
no_end_at b bytes false e h = one_before b bytes h (λ star. let no : eqb b 42 ≡ true = subst (λ c. eqb c 42 ≡ true) (sym star) refl in cc)

no_end_behind : (b : ℕ) (bytes : List ℕ) (star : Bool) → star && eqb b 47 ≡ false → HasNoEnd (b ∷ bytes) → HasNoEnd (behind_star star (b ∷ bytes))
no_end_behind b bytes true e h = one_before 42 (b ∷ bytes) h (λ _ slash. not_slash b bytes e slash)
no_end_behind b bytes false e h = h

pub closed_none : (star : Bool) (bytes : List ℕ) → closed_len star bytes ≡ None → HasNoEnd (behind_star star bytes)
closed_none true [] h = star_has_none
closed_none false [] h = empty_has_none
closed_none star (b ∷ bytes) h = none_by star b bytes (star && eqb b 47) refl h (closed_none (eqb b 42) bytes)
  where
    no_more : (m : Option ℕ) → option_map (λ k. suc k) m ≡ None → m ≡ None
    no_more None h = refl
    no_more (Some k) h = cc

    none_by : (star : Bool) (b : ℕ) (bytes : List ℕ) (v : Bool) → star && eqb b 47 ≡ v → cond v (Some 1) (option_map (λ k. suc k) (closed_len (eqb b 42) bytes)) ≡ None → (closed_len (eqb b 42) bytes ≡ None → HasNoEnd (behind_star (eqb b 42) bytes)) → HasNoEnd (behind_star star (b ∷ bytes))
    none_by star b bytes true e h rest = cc
    none_by star b bytes false e h rest =
        no_end_behind b bytes star e (no_end_at b bytes (eqb b 42) refl (rest (no_more (closed_len (eqb b 42) bytes) h)))
