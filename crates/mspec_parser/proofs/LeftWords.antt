-- Where a word that is left out stands, seen from some lexeme of a text on.
use Rattle.std.proofs.Common.{ℕ, ◌≡◌, List, [], ◌∷◌, ◌++◌, codes, Result, Ok, refl, sym, ap, subst, ◌∙◌, append_assoc}
use Rattle.std.specs.List.{AllByRecursion}
use Rattle.mspec_tree.specs.declared.defs.Description.{Description}
use Rattle.mspec_tree.specs.Form.{left_out_types}
use Rattle.mspec_lexer.specs.Lexemes.{Lexeme}
use Rattle.mspec_lexer.specs.declared.tokens.Symbol.TheVariants as sign
use Rattle.mspec_grammar.specs.declared.words.Word.TheVariants as word
use Rattle.mspec_grammar.specs.Meanings.{Meaning, meaning, Sign, Taken, Name, static_call}
use Rattle.mspec_grammar.specs.Faults.{left_out_fields, IsOneOf}
use Rattle.mspec_quotes.specs.Machine.{Stopped}

-- what reads the rest of a text, from some lexeme on, at most so deep
abbrev pub Rest : Type 0
Rest = ℕ → List Lexeme → Result Description Stopped

-- behind the front a lexeme of this meaning might stand
pub record Might (k : Rest) (limit : ℕ) (front : List Lexeme) (m : Meaning) : Type 0 where
  pub lexeme : Lexeme
  pub means : meaning lexeme ≡ m
  pub more : List Lexeme
  pub tree : Description
  pub is : k limit (front ++ lexeme ∷ more) ≡ Ok tree

abbrev pub NoQuote : Lexeme → Type 0
NoQuote x = meaning x ≡ Sign sign.Quote → ⊥

-- an expression's opening quote stands in the front, and no closing one
pub record InQuotes (k : Rest) (limit : ℕ) (front : List Lexeme) : Type 0 where
  pub before : List Lexeme
  pub inside : List Lexeme
  pub quote : Lexeme
  pub whole : front ≡ before ++ quote ∷ inside
  pub is_quote : meaning quote ≡ Sign sign.Quote
  pub unclosed : AllByRecursion NoQuote inside
  pub opens : Might k limit (before ++ quote ∷ []) (Sign sign.LeftParenthesis)

-- the lexeme behind the front is left out
pub data Left (k : Rest) (limit : ℕ) (front : List Lexeme) (x : Lexeme) : Type 0 where
  a_field : IsOneOf left_out_fields x → Might k limit front (Name (codes "simple")) → Left k limit front x
  a_type : IsOneOf left_out_types x → Might k limit front (Taken word.Bit) → Left k limit front x
  a_way : IsOneOf (codes "terminated" ∷ []) x → Might k limit front (Name (codes "count")) → Left k limit front x
  a_call : meaning x ≡ Name static_call → InQuotes k limit front → Left k limit front x

-- ---- with lexemes in front

module _ (k k' : Rest) (limit : ℕ) (used : List Lexeme) (up : (ys : List Lexeme) (d : Description) → k limit ys ≡ Ok d → k' limit (used ++ ys) ≡ Ok d) where
  might-longer : {front : List Lexeme} {m : Meaning} → Might k limit front m → Might k' limit (used ++ front) m
  might-longer {front} h = record {
    lexeme = h.lexeme;
    means = h.means;
    more = h.more;
    tree = h.tree;
    is = ap (k' limit) (append_assoc used front (h.lexeme ∷ h.more)) ∙ up (front ++ h.lexeme ∷ h.more) h.tree h.is;
  }

  quotes-longer : {front : List Lexeme} → InQuotes k limit front → InQuotes k' limit (used ++ front)
  quotes-longer {front} h = record {
    before = used ++ h.before;
    inside = h.inside;
    quote = h.quote;
    whole = ap (λ (ys : List Lexeme). used ++ ys) h.whole ∙ sym (append_assoc used h.before (h.quote ∷ h.inside));
    is_quote = h.is_quote;
    unclosed = h.unclosed;
    opens = subst (λ (ys : List Lexeme). Might k' limit ys (Sign sign.LeftParenthesis)) (sym (append_assoc used h.before (h.quote ∷ []))) (might-longer h.opens);
  }

  pub left-longer : {front : List Lexeme} {x : Lexeme} → Left k limit front x → Left k' limit (used ++ front) x
  left-longer (a_field h m) = a_field h (might-longer m)
  left-longer (a_type h m) = a_type h (might-longer m)
  left-longer (a_way h m) = a_way h (might-longer m)
  left-longer (a_call h q) = a_call h (quotes-longer q)

-- ---- without them

-- where the lexeme in the middle lies
pub data Split (used front before inside : List Lexeme) (x : Lexeme) : Type 0 where
  behind : (between : List Lexeme) → before ≡ used ++ between → front ≡ between ++ x ∷ inside → Split used front before inside x
  within : (between : List Lexeme) → used ≡ before ++ x ∷ between → inside ≡ between ++ front → Split used front before inside x

same-head : (x y : Lexeme) (xs ys : List Lexeme) → x ∷ xs ≡ y ∷ ys → x ≡ y
same-head x y xs ys e = cc

same-tail : (x y : Lexeme) (xs ys : List Lexeme) → x ∷ xs ≡ y ∷ ys → xs ≡ ys
same-tail x y xs ys e = cc

one-longer : (y : Lexeme) (used front before inside : List Lexeme) (x : Lexeme) → Split used front before inside x → Split (y ∷ used) front (y ∷ before) inside x
one-longer y used front before inside x (behind between p q) = behind between (ap (λ (ys : List Lexeme). y ∷ ys) p) q
one-longer y used front before inside x (within between p q) = within between (ap (λ (ys : List Lexeme). y ∷ ys) p) q

pub split : (used front before inside : List Lexeme) (x : Lexeme) → used ++ front ≡ before ++ x ∷ inside → Split used front before inside x
split [] front before inside x e = behind before refl e
split (y ∷ used) front [] inside x e =
    within used (ap (λ (z : Lexeme). z ∷ used) (same-head y x (used ++ front) inside e)) (sym (same-tail y x (used ++ front) inside e))
split (y ∷ used) front (z ∷ before) inside x e =
    let same : y ≡ z = same-head y z (used ++ front) (before ++ x ∷ inside) e in
    subst (λ (b : Lexeme). Split (y ∷ used) front (b ∷ before) inside x) same
    (one-longer y used front before inside x (split used front before inside x (same-tail y z (used ++ front) (before ++ x ∷ inside) e)))

pub first-part : (P : Lexeme → Type 0) (xs ys : List Lexeme) → AllByRecursion P (xs ++ ys) → AllByRecursion P xs
first-part P [] ys h = tt
first-part P (x ∷ xs) ys h = (h.0, first-part P xs ys h.1)

module _ (k k' : Rest) (limit : ℕ) (used : List Lexeme) (down : (ys : List Lexeme) (d : Description) → k' limit (used ++ ys) ≡ Ok d → k limit ys ≡ Ok d) where
  might-shorter : {front : List Lexeme} {m : Meaning} → Might k' limit (used ++ front) m → Might k limit front m
  might-shorter {front} h = record {
    lexeme = h.lexeme;
    means = h.means;
    more = h.more;
    tree = h.tree;
    is = down (front ++ h.lexeme ∷ h.more) h.tree (sym (ap (k' limit) (append_assoc used front (h.lexeme ∷ h.more))) ∙ h.is);
  }

  -- the quote stands behind what is left away, if that isn't in quotes itself
  quotes-shorter : {front : List Lexeme} → (InQuotes k' limit used → ⊥) → InQuotes k' limit (used ++ front) → InQuotes k limit front
  quotes-shorter {front} apart h = elim (split used front h.before h.inside h.quote h.whole) [
    | behind between p q ↦ record {
      before = between;
      inside = h.inside;
      quote = h.quote;
      whole = q;
      is_quote = h.is_quote;
      unclosed = h.unclosed;
      opens = might-shorter (subst (λ (ys : List Lexeme). Might k' limit ys (Sign sign.LeftParenthesis))
          (ap (λ (ys : List Lexeme). ys ++ h.quote ∷ []) p ∙ append_assoc used between (h.quote ∷ [])) h.opens);
    }
    | within between p q ↦ absurd (apart (record {
      before = h.before;
      inside = between;
      quote = h.quote;
      whole = p;
      is_quote = h.is_quote;
      unclosed = first-part NoQuote between front (subst (λ (ys : List Lexeme). AllByRecursion NoQuote ys) q h.unclosed);
      opens = h.opens;
    }))
  ]

  pub left-shorter : {front : List Lexeme} {x : Lexeme} → (InQuotes k' limit used → ⊥) → Left k' limit (used ++ front) x → Left k limit front x
  left-shorter apart (a_field h m) = a_field h (might-shorter m)
  left-shorter apart (a_type h m) = a_type h (might-shorter m)
  left-shorter apart (a_way h m) = a_way h (might-shorter m)
  left-shorter apart (a_call h q) = a_call h (quotes-shorter apart q)

-- ---- no front

pub nothing-in-quotes : {k : Rest} {limit : ℕ} → InQuotes k limit [] → ⊥
nothing-in-quotes h = by-before h.before h.inside h.quote h.whole
  where
    by-before : (before inside : List Lexeme) (x : Lexeme) → [] ≡ before ++ x ∷ inside → ⊥
    by-before [] inside x e = cc
    by-before (y ∷ before) inside x e = cc
