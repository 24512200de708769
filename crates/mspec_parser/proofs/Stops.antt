-- Where reading the rest of a text stops, and that no text goes on there.
use Rattle.std.proofs.Common.{ℕ, suc, ◌≡◌, ◌≤◌, Bool, true, false, List, [], ◌∷◌, ◌++◌, codes, Result, Ok, Err, length, refl, sym, ap, subst, ◌∙◌, arith, append_assoc}
use Rattle.mspec_tree.specs.declared.words.Place.{Place}
use Rattle.mspec_tree.specs.declared.defs.Description.{Description}
use Rattle.mspec_tree.specs.Form.{left_out_types}
use Rattle.mspec_lexer.specs.Lexemes.{Lexeme}
use Rattle.mspec_lexer.specs.declared.tokens.Symbol.TheVariants as sign
use Rattle.mspec_lexer.specs.declared.tokens.TokenKind.TheVariants as kind
use Rattle.mspec_grammar.specs.declared.faults.ParseWhy.{ParseWhy}
use Rattle.mspec_grammar.specs.declared.faults.ParseWhy.TheVariants.{Unexpected, EndOfText, LeftOut, TooDeep}
use Rattle.mspec_grammar.specs.declared.words.Word.TheVariants as word
use Rattle.mspec_grammar.specs.Meanings.{Meaning, meaning, word_of, Sign, Taken, Name}
use Rattle.mspec_grammar.specs.Faults.{left_out_fields, IsOneOf}
use Rattle.mspec_quotes.specs.Machine.{Stopped}
use Rattle.mspec_quotes.proofs.Completing.{nowhere}
use Rattle.mspec_parser.specs.declared.words.Mark.TheVariants as mark
use Rattle.mspec_parser.specs.Readers.{Read, ◌>>=◌, picked, next_at, one, begins_with, is_mark}
use Rattle.mspec_parser.proofs.LeftWords.{Rest, Might, InQuotes, Left, a_field, a_type, a_way, a_call, left-longer, left-shorter, nothing-in-quotes}

abbrev pub stopped : ParseWhy → List Lexeme → Stopped
stopped why at = record { why = why; at = at }

-- with some further lexemes it is read
pub record Ends (k : Rest) (limit : ℕ) (front : List Lexeme) : Type 0 where
  pub more : List Lexeme
  pub tree : Description
  pub is : k limit (front ++ more) ≡ Ok tree

-- at some limit it is read with this lexeme
pub record Deeper (k : Rest) (limit : ℕ) (front : List Lexeme) (x : Lexeme) : Type 0 where
  pub other : ℕ
  pub above : limit ≤ other
  pub more : List Lexeme
  pub tree : Description
  pub is : k other (front ++ x ∷ more) ≡ Ok tree

-- No text goes on with the lexeme behind the front, and why.
pub record HereAt (k : Rest) (limit : ℕ) (front : List Lexeme) (x : Lexeme) (why : ParseWhy) : Type 0 where
  pub stays : (more : List Lexeme) → k limit (front ++ x ∷ more) ≡ Err (stopped why (x ∷ more))
  pub deep : why ≡ TooDeep → Deeper k limit front x
  pub flat : (why ≡ TooDeep → ⊥) → (other : ℕ) → 1 ≤ other → (more : List Lexeme) (d : Description) → k other (front ++ x ∷ more) ≡ Ok d → ⊥
  pub going : why ≡ EndOfText → ⊥
  pub leaves : why ≡ LeftOut → Left k limit front x
  pub keeps : why ≡ Unexpected → Left k limit front x → ⊥

abbrev pub Here : Rest → ℕ → List Lexeme → List Lexeme → ParseWhy → Type 0
Here k limit front [] why = why ≡ EndOfText
Here k limit front (x ∷ rest) why = HereAt k limit front x why

pub record Stop (k : Rest) (limit : ℕ) (xs : List Lexeme) (f : Stopped) : Type 0 where
  pub front : List Lexeme
  pub whole : xs ≡ front ++ f.at
  pub begins : Ends k limit front
  pub here : Here k limit front f.at f.why

-- Some text goes on from here, and each stop among at most n lexemes is one where none does.
pub record Good (n : ℕ) (k : Rest) : Type 0 where
  pub stops : (limit : ℕ) → 1 ≤ limit → (xs : List Lexeme) → length xs ≤ n → (f : Stopped) → k limit xs ≡ Err f → Stop k limit xs f
  pub some : (limit : ℕ) → 1 ≤ limit → Ends k limit []

abbrev pub through : {A : Type 0} → (ℕ → List Lexeme → Read A) → (A → Rest) → Rest
through r k limit xs = r limit xs >>= λ p. k p.0 limit p.1

-- ---- the same rest

module _ (k k' : Rest) (same : (limit : ℕ) → 1 ≤ limit → (xs : List Lexeme) → k limit xs ≡ k' limit xs) where
  ends-alike : {limit : ℕ} {front : List Lexeme} → 1 ≤ limit → Ends k limit front → Ends k' limit front
  ends-alike {limit} {front} low e = record { more = e.more; tree = e.tree; is = sym (same limit low (front ++ e.more)) ∙ e.is }

  here-alike : (limit : ℕ) (front : List Lexeme) → 1 ≤ limit → (at : List Lexeme) (why : ParseWhy) → Here k limit front at why → Here k' limit front at why
  here-alike limit front low [] why h = h
  here-alike limit front low (x ∷ rest) why h = record {
    stays = λ more. sym (same limit low (front ++ x ∷ more)) ∙ h.stays more;
    deep = λ e.
        let d = h.deep e in
        let above : limit ≤ d.other = d.above in
        let low' : 1 ≤ d.other = omega arith in
        record { other = d.other; above = d.above; more = d.more; tree = d.tree; is = sym (same d.other low' (front ++ x ∷ d.more)) ∙ d.is };
    flat = λ n other low' more d e. h.flat n other low' more d (same other low' (front ++ x ∷ more) ∙ e);
    going = h.going;
    leaves = λ e. left-longer k k' limit [] (λ ys d e. sym (same limit low ys) ∙ e) (h.leaves e);
    keeps = λ e l. h.keeps e (left-shorter k k' limit [] (λ ys d e. same limit low ys ∙ e) (λ q. nothing-in-quotes q) l);
  }

  pub alike : {n : ℕ} → Good n k → Good n k'
  alike g = record {
    stops = λ limit low xs le f e.
        let s = g.stops limit low xs le f (same limit low xs ∙ e) in
        record { front = s.front; whole = s.whole; begins = ends-alike low s.begins; here = here-alike limit s.front low f.at f.why s.here };
    some = λ limit low. ends-alike low (g.some limit low);
  }

pub fewer : {m n : ℕ} {k : Rest} → m ≤ n → Good n k → Good m k
fewer le g = record { stops = λ limit low xs le' f e. g.stops limit low xs (omega arith) f e; some = g.some }

-- ---- behind lexemes that are read

module _ (k k' : Rest) (limit : ℕ) (used : List Lexeme)
    (up : (other : ℕ) → limit ≤ other → (ys : List Lexeme) → k' other (used ++ ys) ≡ k other ys)
    (down : (other : ℕ) → 1 ≤ other → (ys : List Lexeme) (d : Description) → k' other (used ++ ys) ≡ Ok d → k other ys ≡ Ok d)
    (apart : InQuotes k' limit used → ⊥) where
  longer-ends : {front : List Lexeme} → Ends k limit front → Ends k' limit (used ++ front)
  longer-ends {front} e = record { more = e.more; tree = e.tree; is = ap (k' limit) (append_assoc used front e.more) ∙ up limit (omega arith) (front ++ e.more) ∙ e.is }

  longer-here : (front at : List Lexeme) (why : ParseWhy) → Here k limit front at why → Here k' limit (used ++ front) at why
  longer-here front [] why h = h
  longer-here front (x ∷ rest) why h = record {
    stays = λ more. ap (k' limit) (append_assoc used front (x ∷ more)) ∙ up limit (omega arith) (front ++ x ∷ more) ∙ h.stays more;
    deep = λ e.
        let d = h.deep e in
        record {
          other = d.other;
          above = d.above;
          more = d.more;
          tree = d.tree;
          is = ap (k' d.other) (append_assoc used front (x ∷ d.more)) ∙ up d.other d.above (front ++ x ∷ d.more) ∙ d.is;
        };
    flat = λ n other low more d e.
        h.flat n other low more d (down other low (front ++ x ∷ more) d (sym (ap (k' other) (append_assoc used front (x ∷ more))) ∙ e));
    going = h.going;
    leaves = λ e. left-longer k k' limit used (λ ys d e. up limit (omega arith) ys ∙ e) (h.leaves e);
    keeps = λ e l. h.keeps e (left-shorter k k' limit used (λ ys d e. sym (up limit (omega arith) ys) ∙ e) apart l);
  }

  pub longer : {rest : List Lexeme} {f : Stopped} → Stop k limit rest f → Stop k' limit (used ++ rest) f
  longer {rest} {f} s = record {
    front = used ++ s.front;
    whole = ap (λ (ys : List Lexeme). used ++ ys) s.whole ∙ sym (append_assoc used s.front f.at);
    begins = longer-ends s.begins;
    here = longer-here s.front f.at f.why s.here;
  }

-- ---- one lexeme

-- the lexeme is left out, and a word in whose place it stands isn't
pub data Allowed {A : Type 0} (pick : Meaning → Result A ParseWhy) (x : Lexeme) : Type 0 where
  for_field : IsOneOf left_out_fields x → (a : A) → pick (Name (codes "simple")) ≡ Ok a → Allowed pick x
  for_type : IsOneOf left_out_types x → (a : A) → pick (Taken word.Bit) ≡ Ok a → Allowed pick x
  for_way : IsOneOf (codes "terminated" ∷ []) x → (a : A) → pick (Name (codes "count")) ≡ Ok a → Allowed pick x

-- there is such a lexeme, and why other ones are none
pub record Proper {A : Type 0} (pick : Meaning → Result A ParseWhy) : Type 0 where
  pub lexeme : Lexeme
  pub value : A
  pub picks : pick (meaning lexeme) ≡ Ok value
  pub flat : (m : Meaning) → pick m ≡ Err TooDeep → ⊥
  pub going : (m : Meaning) → pick m ≡ Err EndOfText → ⊥
  pub leaves : (x : Lexeme) → pick (meaning x) ≡ Err LeftOut → Allowed pick x
  pub keeps : (x : Lexeme) → pick (meaning x) ≡ Err Unexpected → Allowed pick x → ⊥

-- no text that is read begins with such a lexeme
pub record Bars (go : Meaning → Bool) (k : Rest) : Type 0 where
  pub is : (limit : ℕ) (xs : List Lexeme) (d : Description) → k limit xs ≡ Ok d → begins_with go xs ≡ false

abbrev pub opens : Meaning → Bool
opens m = is_mark mark.LeftParenthesis m

abbrev pub spelt_lexeme : List ℕ → Lexeme
spelt_lexeme bytes = record { kind = kind.Name; text = bytes; place = nowhere }

pub means_simple : meaning (spelt_lexeme (codes "simple")) ≡ Name (codes "simple")
unfolding word_of
means_simple = refl

pub means_bit : meaning (spelt_lexeme (codes "bit")) ≡ Taken word.Bit
unfolding word_of
means_bit = refl

pub means_count : meaning (spelt_lexeme (codes "count")) ≡ Name (codes "count")
unfolding word_of
means_count = refl

module _ {A : Type 0} (pick : Meaning → Result A ParseWhy) (proper : Proper pick) (k : A × Place → Rest) where
  abbrev whole : Rest
  whole limit xs = one pick xs >>= λ p. k p.0 limit p.1

  taken : (x : Lexeme) (a : A) → pick (meaning x) ≡ Ok a → (limit : ℕ) (ys : List Lexeme) → whole limit (x ∷ ys) ≡ k (a, x.place) limit ys
  unfolding next_at
  taken x a h limit ys = ap (λ (r : Result A ParseWhy). picked r x.place ys (x ∷ ys) >>= λ p. k p.0 limit p.1) h

  refused : (x : Lexeme) (why : ParseWhy) → pick (meaning x) ≡ Err why → (limit : ℕ) (ys : List Lexeme) → whole limit (x ∷ ys) ≡ Err (stopped why (x ∷ ys))
  unfolding next_at
  refused x why h limit ys = ap (λ (r : Result A ParseWhy). picked r x.place ys (x ∷ ys) >>= λ p. k p.0 limit p.1) h

  first-ends : {n : ℕ} → ((a : A × Place) → Good n (k a)) → (limit : ℕ) → 1 ≤ limit → Ends whole limit []
  first-ends good limit low =
      let y = proper.lexeme in
      let e = (good (proper.value, y.place)).some limit low in
      record { more = y ∷ e.more; tree = e.tree; is = taken y proper.value proper.picks limit e.more ∙ e.is }

  never-ok : (x : Lexeme) (why : ParseWhy) → pick (meaning x) ≡ Err why → (other : ℕ) (more : List Lexeme) (d : Description) → whole other (x ∷ more) ≡ Ok d → ⊥
  never-ok x why h other more d e = let r = refused x why h other more in cc

  might-first : {n : ℕ} → ((a : A × Place) → Good n (k a)) → (limit : ℕ) → 1 ≤ limit → (y : Lexeme) (m : Meaning) (a : A) → meaning y ≡ m → pick m ≡ Ok a → Might whole limit [] m
  might-first good limit low y m a means h =
      let e = (good (a, y.place)).some limit low in
      record { lexeme = y; means = means; more = e.more; tree = e.tree; is = taken y a (ap pick means ∙ h) limit e.more ∙ e.is }

  left-by : {n : ℕ} → ((a : A × Place) → Good n (k a)) → (limit : ℕ) → 1 ≤ limit → (x : Lexeme) → Allowed pick x → Left whole limit [] x
  left-by good limit low x (for_field h a p) = a_field h (might-first good limit low (spelt_lexeme (codes "simple")) (Name (codes "simple")) a means_simple p)
  left-by good limit low x (for_type h a p) = a_type h (might-first good limit low (spelt_lexeme (codes "bit")) (Taken word.Bit) a means_bit p)
  left-by good limit low x (for_way h a p) = a_way h (might-first good limit low (spelt_lexeme (codes "count")) (Name (codes "count")) a means_count p)

  picks-first : (limit : ℕ) (m : Meaning) → Might whole limit [] m → (a : A) × (pick m ≡ Ok a)
  picks-first limit m h = by-pick (pick m) refl
    where
      by-pick : (r : Result A ParseWhy) → pick m ≡ r → (a : A) × (pick m ≡ Ok a)
      by-pick (Ok a) p = (a, p)
      by-pick (Err why) p = absurd (never-ok h.lexeme why (ap pick h.means ∙ p) limit h.more h.tree h.is)

  allowed-by : (limit : ℕ) (x : Lexeme) → (InQuotes whole limit [] → ⊥) → Left whole limit [] x → Allowed pick x
  allowed-by limit x apart (a_field h m) = let p = picks-first limit (Name (codes "simple")) m in for_field h p.0 p.1
  allowed-by limit x apart (a_type h m) = let p = picks-first limit (Taken word.Bit) m in for_type h p.0 p.1
  allowed-by limit x apart (a_way h m) = let p = picks-first limit (Name (codes "count")) m in for_way h p.0 p.1
  allowed-by limit x apart (a_call h q) = absurd (apart q)

  -- behind the first lexeme nothing is in quotes yet
  first-apart : (x : Lexeme) (a : A) → pick (meaning x) ≡ Ok a → (meaning x ≡ Sign sign.Quote → Bars opens (k (a, x.place))) → (limit : ℕ) → InQuotes whole limit (x ∷ []) → ⊥
  first-apart x a h bars limit q = by-before q.before q.inside q.quote q.whole q.is_quote q.opens
    where
      at-quote : (quote : Lexeme) → x ≡ quote → meaning quote ≡ Sign sign.Quote → Might whole limit (quote ∷ []) (Sign sign.LeftParenthesis) → ⊥
      at-quote quote same is_quote m =
          let m' : Might whole limit (x ∷ []) (Sign sign.LeftParenthesis) = subst (λ (y : Lexeme). Might whole limit (y ∷ []) (Sign sign.LeftParenthesis)) (sym same) m in
          let barred = (bars (ap meaning same ∙ is_quote)).is limit (m'.lexeme ∷ m'.more) m'.tree (sym (taken x a h limit (m'.lexeme ∷ m'.more)) ∙ m'.is) in
          let open_ : opens (meaning m'.lexeme) ≡ true = ap opens m'.means in
          cc

      by-before : (before inside : List Lexeme) (quote : Lexeme) → x ∷ [] ≡ before ++ quote ∷ inside → meaning quote ≡ Sign sign.Quote
          → Might whole limit (before ++ quote ∷ []) (Sign sign.LeftParenthesis) → ⊥
      by-before [] inside quote e is_quote m = at-quote quote (cc) is_quote m
      by-before (y ∷ []) inside quote e is_quote m = cc
      by-before (y ∷ z ∷ before) inside quote e is_quote m = cc

  stops-at : {n : ℕ} → ((a : A × Place) → Good n (k a)) → ((a : A × Place) (x : Lexeme) → pick (meaning x) ≡ Ok a.0 → meaning x ≡ Sign sign.Quote → Bars opens (k a))
      → (limit : ℕ) → 1 ≤ limit → (x : Lexeme) (rest : List Lexeme) → length rest ≤ n
      → (r : Result A ParseWhy) → pick (meaning x) ≡ r → (f : Stopped) → whole limit (x ∷ rest) ≡ Err f → Stop whole limit (x ∷ rest) f
  stops-at good bars limit low x rest le (Ok a) h f e =
      let s = (good (a, x.place)).stops limit low rest le f (sym (taken x a h limit rest) ∙ e) in
      longer (k (a, x.place)) whole limit (x ∷ []) (λ other above ys. taken x a h other ys) (λ other low ys d e. sym (taken x a h other ys) ∙ e)
      (λ q. first-apart x a h (λ quote. bars (a, x.place) x h quote) limit q) s
  stops-at good bars limit low x rest le (Err why) h f e =
      let got = refused x why h limit rest in
      let same : stopped why (x ∷ rest) ≡ f = cc in
      subst (λ (f : Stopped). Stop whole limit (x ∷ rest) f) same (record {
        front = [];
        whole = refl;
        begins = first-ends good limit low;
        here = record {
          stays = λ more. refused x why h limit more;
          deep = λ e. absurd (proper.flat (meaning x) (h ∙ ap Err e));
          flat = λ n other low more d e. never-ok x why h other more d e;
          going = λ e. proper.going (meaning x) (h ∙ ap Err e);
          leaves = λ e. left-by good limit low x (proper.leaves x (h ∙ ap Err e));
          keeps = λ e l. proper.keeps x (h ∙ ap Err e) (allowed-by limit x (λ q. nothing-in-quotes q) l);
        };
      })

  stops-in : {n : ℕ} → ((a : A × Place) → Good n (k a)) → ((a : A × Place) (x : Lexeme) → pick (meaning x) ≡ Ok a.0 → meaning x ≡ Sign sign.Quote → Bars opens (k a))
      → (limit : ℕ) → 1 ≤ limit → (xs : List Lexeme) → length xs ≤ suc n → (f : Stopped) → whole limit xs ≡ Err f → Stop whole limit xs f
  unfolding next_at
  stops-in good bars limit low [] le f e =
      let same : stopped EndOfText [] ≡ f = cc in
      subst (λ (f : Stopped). Stop whole limit [] f) same (record { front = []; whole = refl; begins = first-ends good limit low; here = refl })
  stops-in good bars limit low (x ∷ rest) le f e = stops-at good bars limit low x rest (omega arith) (pick (meaning x)) refl f e

  pub one-good : {n : ℕ} → ((a : A × Place) → Good n (k a)) → ((a : A × Place) (x : Lexeme) → pick (meaning x) ≡ Ok a.0 → meaning x ≡ Sign sign.Quote → Bars opens (k a))
      → Good (suc n) whole
  one-good good bars = record { stops = λ limit low xs le f e. stops-in good bars limit low xs le f e; some = λ limit low. first-ends good limit low }
