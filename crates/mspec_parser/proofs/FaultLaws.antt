-- Where reading a description stops it leaves the grammar, there alone and for that reason.
use Rattle.std.proofs.Common.{ℕ, suc, ◌≡◌, ◌≤◌, ◌⊎◌, inl, inr, List, [], ◌∷◌, ◌++◌, codes, Result, Ok, Err, refl, sym, ap, subst, ◌∙◌, arith, append_assoc, append-nil}
use Rattle.mspec_tree.specs.declared.defs.Description.{Description}
use Rattle.mspec_tree.specs.Depth.{depth_limit}
use Rattle.mspec_lexer.specs.Lexemes.{Lexeme}
use Rattle.mspec_lexer.specs.declared.tokens.Symbol.TheVariants as sign
use Rattle.mspec_grammar.specs.declared.faults.ParseWhy.{ParseWhy}
use Rattle.mspec_grammar.specs.declared.faults.ParseWhy.TheVariants.{Unexpected, EndOfText, LeftOut, TooDeep}
use Rattle.mspec_grammar.specs.declared.words.Word.TheVariants as word
use Rattle.mspec_grammar.specs.Meanings.{Meaning, meaning, Sign, Taken, Name}
use Rattle.mspec_grammar.specs.Trees.{Tree}
use Rattle.mspec_grammar.specs.Faults.{Language, Begins, HasWhy, IsFault, Leaves, IsText, MightStand, IsInQuotes, LeavesOut, IsRefused}
use Rattle.mspec_quotes.specs.Machine.{Stopped}
use Rattle.mspec_parser.specs.Defs.{description_at}
use Rattle.mspec_parser.proofs.CompleteTrees.{tree-reads}
use Rattle.mspec_parser.proofs.SoundTrees.{read-tree}
use Rattle.mspec_parser.proofs.Deepen.{tree-deeper}
use Rattle.mspec_parser.proofs.LeftWords.{Might, InQuotes, Left, a_field, a_type, a_way, a_call}
use Rattle.mspec_parser.proofs.Stops.{Ends, HereAt, Here, stopped}
use Rattle.mspec_parser.proofs.DefLaws.{description-stops}

-- ---- one fault

data Compared (front at front' at' : List Lexeme) : Type 0 where
  same : front ≡ front' → at ≡ at' → Compared front at front' at'
  earlier : (x : Lexeme) (mid : List Lexeme) → at ≡ x ∷ (mid ++ at') → front' ≡ front ++ x ∷ mid → Compared front at front' at'
  later : (x : Lexeme) (mid : List Lexeme) → at' ≡ x ∷ (mid ++ at) → front ≡ front' ++ x ∷ mid → Compared front at front' at'

one-more : (y : Lexeme) (front at front' at' : List Lexeme) → Compared front at front' at' → Compared (y ∷ front) at (y ∷ front') at'
one-more y front at front' at' (same p q) = same (ap (λ (ys : List Lexeme). y ∷ ys) p) q
one-more y front at front' at' (earlier x mid p q) = earlier x mid p (ap (λ (ys : List Lexeme). y ∷ ys) q)
one-more y front at front' at' (later x mid p q) = later x mid p (ap (λ (ys : List Lexeme). y ∷ ys) q)

same-head : (x y : Lexeme) (xs ys : List Lexeme) → x ∷ xs ≡ y ∷ ys → x ≡ y
same-head x y xs ys e = cc

same-tail : (x y : Lexeme) (xs ys : List Lexeme) → x ∷ xs ≡ y ∷ ys → xs ≡ ys
same-tail x y xs ys e = cc

compare : (front at front' at' : List Lexeme) → front ++ at ≡ front' ++ at' → Compared front at front' at'
compare [] at [] at' e = same refl e
compare [] at (y ∷ front') at' e = earlier y front' e refl
compare (x ∷ front) at [] at' e = later x front (sym e) refl
compare (x ∷ front) at (y ∷ front') at' e =
    let heads = same-head x y (front ++ at) (front' ++ at') e in
    subst (λ (z : Lexeme). Compared (x ∷ front) at (z ∷ front') at') heads
    (one-more x front at front' at' (compare front at front' at' (same-tail x y (front ++ at) (front' ++ at') e)))

module _ (L : Language) (Out : List Lexeme → Lexeme → Type 0) where
  fault-begins : (front at : List Lexeme) (why : ParseWhy) → IsFault L Out front at why → Begins L depth_limit front
  fault-begins front [] why f = f.0
  fault-begins front (x ∷ rest) why f = f.0

  -- a text that goes on past a fault
  begins-past : (front mid : List Lexeme) (x : Lexeme) → Begins L depth_limit (front ++ x ∷ mid) → Begins L depth_limit (front ++ x ∷ [])
  begins-past front mid x b =
      (mid ++ b.0, subst (λ (ys : List Lexeme). L depth_limit ys) (append_assoc front (x ∷ mid) b.0 ∙ sym (append_assoc front (x ∷ []) (mid ++ b.0))) b.1)

  not-earlier : (front at front' at' : List Lexeme) (why why' : ParseWhy) → IsFault L Out front at why → IsFault L Out front' at' why'
      → (x : Lexeme) (mid : List Lexeme) → at ≡ x ∷ (mid ++ at') → front' ≡ front ++ x ∷ mid → ⊥
  not-earlier front at front' at' why why' f f' x mid p q =
      let f'' : IsFault L Out front (x ∷ (mid ++ at')) why = subst (λ (ys : List Lexeme). IsFault L Out front ys why) p f in
      f''.1 (begins-past front mid x (subst (λ (ys : List Lexeme). Begins L depth_limit ys) q (fault-begins front' at' why' f')))

  same-why-at : (front : List Lexeme) (x : Lexeme) (why why' : ParseWhy) → HasWhy L Out front x why → HasWhy L Out front x why' → why ≡ why'
  same-why-at front x TooDeep TooDeep h h' = refl
  same-why-at front x TooDeep LeftOut h h' = absurd (h'.0 h.0 h.1)
  same-why-at front x TooDeep Unexpected h h' = absurd (h'.0 h.0 h.1)
  same-why-at front x TooDeep EndOfText h h' = absurd h'
  same-why-at front x LeftOut TooDeep h h' = absurd (h.0 h'.0 h'.1)
  same-why-at front x LeftOut LeftOut h h' = refl
  same-why-at front x LeftOut Unexpected h h' = absurd (h'.1 h.1)
  same-why-at front x LeftOut EndOfText h h' = absurd h'
  same-why-at front x Unexpected TooDeep h h' = absurd (h.0 h'.0 h'.1)
  same-why-at front x Unexpected LeftOut h h' = absurd (h.1 h'.1)
  same-why-at front x Unexpected Unexpected h h' = refl
  same-why-at front x Unexpected EndOfText h h' = absurd h'
  same-why-at front x EndOfText other h h' = absurd h

  same-why : (front at : List Lexeme) (why why' : ParseWhy) → IsFault L Out front at why → IsFault L Out front at why' → why ≡ why'
  same-why front [] why why' f f' = f.2 ∙ sym f'.2
  same-why front (x ∷ rest) why why' f f' = same-why-at front x why why' f.2 f'.2

  -- lexemes leave a language at one place, for one reason
  pub one-leaving : (from at at' : List Lexeme) (why why' : ParseWhy) → Leaves L Out from at why → Leaves L Out from at' why' → (at ≡ at') × (why ≡ why')
  one-leaving from at at' why why' l l' = by-compared (compare l.front at l'.front at' (sym l.whole ∙ l'.whole))
    where
      by-compared : Compared l.front at l'.front at' → (at ≡ at') × (why ≡ why')
      by-compared (same p q) = (
        q,
        same-why l'.front at' why why'
            (subst (λ (ys : List Lexeme). IsFault L Out l'.front ys why) q (subst (λ (ys : List Lexeme). IsFault L Out ys at why) p l.fault)) l'.fault,
      )
      by-compared (earlier x mid p q) = absurd (not-earlier l.front at l'.front at' why why' l.fault l'.fault x mid p q)
      by-compared (later x mid p q) = absurd (not-earlier l'.front at' l.front at why' why l'.fault l.fault x mid p q)

  -- and are none of its texts
  pub none-left : (from at : List Lexeme) (why : ParseWhy) → Leaves L Out from at why → L depth_limit from → ⊥
  none-left from [] why l t = l.fault.1 (subst (λ (ys : List Lexeme). L depth_limit ys) (l.whole ∙ append-nil l.front) t)
  none-left from (x ∷ rest) why l t =
      l.fault.1 (rest, subst (λ (ys : List Lexeme). L depth_limit ys) (l.whole ∙ sym (append_assoc l.front (x ∷ []) rest)) t)

-- ---- reading and the grammar

begins-of : (limit : ℕ) → 1 ≤ limit → (front more : List Lexeme) (d : Description) → description_at limit (front ++ more) ≡ Ok d → Begins IsText limit front
begins-of limit low front more d e = (more, (d, read-tree limit low (front ++ more) d e))

with-next : (front more : List Lexeme) (x : Lexeme) → (front ++ x ∷ []) ++ more ≡ front ++ x ∷ more
with-next front more x = append_assoc front (x ∷ []) more

begins-next : (limit : ℕ) → 1 ≤ limit → (front more : List Lexeme) (x : Lexeme) (d : Description) → description_at limit (front ++ x ∷ more) ≡ Ok d
    → Begins IsText limit (front ++ x ∷ [])
begins-next limit low front more x d e = begins-of limit low (front ++ x ∷ []) more d (ap (description_at limit) (with-next front more x) ∙ e)

read-next : (limit : ℕ) (front more : List Lexeme) (x : Lexeme) (d : Description) → Tree limit ((front ++ x ∷ []) ++ more) d → description_at limit (front ++ x ∷ more) ≡ Ok d
read-next limit front more x d t = sym (ap (description_at limit) (with-next front more x)) ∙ tree-reads limit ((front ++ x ∷ []) ++ more) d t

module _ (front : List Lexeme) where
  stands-of : (m : Meaning) → Might description_at depth_limit front m → MightStand front (λ y. meaning y ≡ m)
  stands-of m h = (h.lexeme, h.means, begins-next depth_limit (omega arith) front h.more h.lexeme h.tree h.is)

  might-of : (m : Meaning) → MightStand front (λ y. meaning y ≡ m) → Might description_at depth_limit front m
  might-of m s = record { lexeme = s.0; means = s.1; more = s.2.0; tree = s.2.1.0; is = read-next depth_limit front s.2.0 s.0 s.2.1.0 s.2.1.1 }

quotes-of : (front : List Lexeme) → InQuotes description_at depth_limit front → IsInQuotes front
quotes-of front q = record {
  before = q.before;
  inside = q.inside;
  quote = q.quote;
  whole = q.whole;
  is_quote = q.is_quote;
  unclosed = q.unclosed;
  of_expression = stands-of (q.before ++ q.quote ∷ []) (Sign sign.LeftParenthesis) q.opens;
}

of-quotes : (front : List Lexeme) → IsInQuotes front → InQuotes description_at depth_limit front
of-quotes front q = record {
  before = q.before;
  inside = q.inside;
  quote = q.quote;
  whole = q.whole;
  is_quote = q.is_quote;
  unclosed = q.unclosed;
  opens = might-of (q.before ++ q.quote ∷ []) (Sign sign.LeftParenthesis) q.of_expression;
}

out-of : (front : List Lexeme) (x : Lexeme) → Left description_at depth_limit front x → LeavesOut front x
out-of front x (a_field w m) = inl (w, stands-of front (Name (codes "simple")) m)
out-of front x (a_type w m) = inr (inl (w, stands-of front (Taken word.Bit) m))
out-of front x (a_way w m) = inr (inr (inl (w, stands-of front (Name (codes "count")) m)))
out-of front x (a_call h q) = inr (inr (inr (h, quotes-of front q)))

of-out : (front : List Lexeme) (x : Lexeme) → LeavesOut front x → Left description_at depth_limit front x
of-out front x (inl h) = a_field h.0 (might-of front (Name (codes "simple")) h.1)
of-out front x (inr (inl h)) = a_type h.0 (might-of front (Taken word.Bit) h.1)
of-out front x (inr (inr (inl h))) = a_way h.0 (might-of front (Name (codes "count")) h.1)
of-out front x (inr (inr (inr h))) = a_call h.0 (of-quotes front h.1)

-- ---- where reading stops

module _ (front : List Lexeme) (x : Lexeme) where
  flat-ever : (why : ParseWhy) → HereAt description_at depth_limit front x why → (why ≡ TooDeep → ⊥) → (limit : ℕ) → Begins IsText limit (front ++ x ∷ []) → ⊥
  flat-ever why h flat limit b =
      h.flat flat (suc limit) (omega arith) b.0 b.1.0
      (read-next (suc limit) front b.0 x b.1.0 (tree-deeper limit (suc limit) (omega arith) ((front ++ x ∷ []) ++ b.0) b.1.0 b.1.1))

  has-why : (why : ParseWhy) → HereAt description_at depth_limit front x why → HasWhy IsText LeavesOut front x why
  has-why TooDeep h =
      let d = h.deep refl in
      let above : depth_limit ≤ d.other = d.above in
      (d.other, begins-next d.other (omega arith) front d.more x d.tree d.is)
  has-why LeftOut h = (flat-ever LeftOut h (λ e. cc), out-of front x (h.leaves refl))
  has-why Unexpected h = (flat-ever Unexpected h (λ e. cc), λ l. h.keeps refl (of-out front x l))
  has-why EndOfText h = h.going refl

  none-here : (why : ParseWhy) → HereAt description_at depth_limit front x why → Begins IsText depth_limit (front ++ x ∷ []) → ⊥
  none-here why h b = let stay = h.stays b.0 in let e = read-next depth_limit front b.0 x b.1.0 b.1.1 in cc

fault-of : (front at : List Lexeme) (why : ParseWhy) → Ends description_at depth_limit front → Here description_at depth_limit front at why
    → description_at depth_limit (front ++ at) ≡ Err (stopped why at) → IsFault IsText LeavesOut front at why
fault-of front [] why e h r = (
  begins-of depth_limit (omega arith) front e.more e.tree e.is,
  λ t.
      let got = tree-reads depth_limit front t.0 t.1 in
      let refused : description_at depth_limit front ≡ Err (stopped why []) = sym (ap (description_at depth_limit) (append-nil front)) ∙ r in
      cc,
  h,
)
fault-of front (x ∷ rest) why e h r = (begins-of depth_limit (omega arith) front e.more e.tree e.is, none-here front x why h, has-why front x why h)

-- Where reading stops no text of the grammar goes on.
pub refused-at : (xs : List Lexeme) (f : Stopped) → description_at depth_limit xs ≡ Err f → IsRefused xs f.at f.why
refused-at xs f e =
    let s = description-stops depth_limit (omega arith) xs f e in
    record {
      front = s.front;
      whole = s.whole;
      fault = fault-of s.front f.at f.why s.begins s.here (ap (description_at depth_limit) (sym s.whole) ∙ e);
    }

same-stop : (f : Stopped) (at : List Lexeme) (why : ParseWhy) → f.at ≡ at → f.why ≡ why → f ≡ stopped why at
same-stop f at why p q = ap (λ (ys : List Lexeme). stopped f.why ys) p ∙ ap (λ (w : ParseWhy). stopped w at) q

-- Where no text of the grammar goes on reading stops.
pub stops-at : (xs at : List Lexeme) (why : ParseWhy) → IsRefused xs at why → description_at depth_limit xs ≡ Err (stopped why at)
stops-at xs at why l = by-read (description_at depth_limit xs) refl
  where
    by-read : (r : Result Description Stopped) → description_at depth_limit xs ≡ r → description_at depth_limit xs ≡ Err (stopped why at)
    by-read (Ok d) e = absurd (none-left IsText LeavesOut xs at why l (d, read-tree depth_limit (omega arith) xs d e))
    by-read (Err f) e =
        let one = one-leaving IsText LeavesOut xs f.at at f.why why (refused-at xs f e) l in
        e ∙ ap Err (same-stop f at why one.0 one.1)

-- There is one such place, for one reason.
pub one-fault : (xs at at' : List Lexeme) (why why' : ParseWhy) → IsRefused xs at why → IsRefused xs at' why' → (at ≡ at') × (why ≡ why')
one-fault xs at at' why why' l l' = one-leaving IsText LeavesOut xs at at' why why' l l'

-- Lexemes with such a place have no tree.
pub no-tree : (xs at : List Lexeme) (why : ParseWhy) (d : Description) → IsRefused xs at why → Tree depth_limit xs d → ⊥
no-tree xs at why d l t = none-left IsText LeavesOut xs at why l (d, t)

-- Lexemes have a tree or such a place.
pub tree-or-fault : (xs : List Lexeme) → ((d : Description) × Tree depth_limit xs d) ⊎ ((at : List Lexeme) × (why : ParseWhy) × IsRefused xs at why)
tree-or-fault xs = by-read (description_at depth_limit xs) refl
  where
    by-read : (r : Result Description Stopped) → description_at depth_limit xs ≡ r
        → ((d : Description) × Tree depth_limit xs d) ⊎ ((at : List Lexeme) × (why : ParseWhy) × IsRefused xs at why)
    by-read (Ok d) e = inl (d, read-tree depth_limit (omega arith) xs d e)
    by-read (Err f) e = inr (f.at, f.why, refused-at xs f e)
