-- Where reading stops that goes one way or another by the first lexeme.
use Rattle.std.proofs.Common.{ℕ, ◌≡◌, ◌≤◌, Bool, true, false, cond, List, [], ◌∷◌, ◌++◌, codes, Ok, Err, length, refl, sym, ap, subst, ◌∙◌, arith}
use Rattle.mspec_tree.specs.declared.defs.Description.{Description}
use Rattle.mspec_tree.specs.Form.{left_out_types, is_one_of}
use Rattle.mspec_lexer.specs.Lexemes.{Lexeme}
use Rattle.mspec_grammar.specs.declared.faults.ParseWhy.{ParseWhy}
use Rattle.mspec_grammar.specs.declared.words.Word.TheVariants as word
use Rattle.mspec_grammar.specs.Meanings.{Meaning, meaning, Taken, Name}
use Rattle.mspec_grammar.specs.Faults.{left_out_fields}
use Rattle.mspec_quotes.specs.Machine.{Stopped}
use Rattle.mspec_parser.specs.Readers.{begins_with}
use Rattle.mspec_parser.proofs.LeftWords.{Rest, Might, InQuotes, Left, a_field, a_type, a_way, a_call, left-longer, nothing-in-quotes}
use Rattle.mspec_parser.proofs.Stops.{Ends, Here, Stop, Good}

-- no word that is left out passes the test, nor what stands in its place
pub record Plain (test : Meaning → Bool) : Type 0 where
  pub simple : test (Name (codes "simple")) ≡ false
  pub bit : test (Taken word.Bit) ≡ false
  pub count : test (Name (codes "count")) ≡ false
  pub fields : (w : List ℕ) → is_one_of left_out_fields w ≡ true → test (Name w) ≡ false
  pub types : (w : List ℕ) → is_one_of left_out_types w ≡ true → test (Name w) ≡ false
  pub ways : (w : List ℕ) → is_one_of (codes "terminated" ∷ []) w ≡ true → test (Name w) ≡ false

-- one branch, whose first lexemes all pass the test or none
module _ (test : Meaning → Bool) (whole branch : Rest) (b : Bool)
    (as_branch : (limit : ℕ) (xs : List Lexeme) → begins_with test xs ≡ b → whole limit xs ≡ branch limit xs)
    (tests : (limit : ℕ) (xs : List Lexeme) (d : Description) → branch limit xs ≡ Ok d → begins_with test xs ≡ b)
    (at_first : (limit : ℕ) (x : Lexeme) → test (meaning x) ≡ b → Left whole limit [] x → Left branch limit [] x) where
  ends-whole : {limit : ℕ} {front : List Lexeme} → Ends branch limit front → Ends whole limit front
  ends-whole {limit} {front} e =
      record { more = e.more; tree = e.tree; is = as_branch limit (front ++ e.more) (tests limit (front ++ e.more) e.tree e.is) ∙ e.is }

  might-in : {limit : ℕ} {front : List Lexeme} {m : Meaning} → ((more : List Lexeme) → begins_with test (front ++ more) ≡ b) → Might whole limit front m → Might branch limit front m
  might-in {limit} {front} h m = record {
    lexeme = m.lexeme;
    means = m.means;
    more = m.more;
    tree = m.tree;
    is = sym (as_branch limit (front ++ m.lexeme ∷ m.more) (h (m.lexeme ∷ m.more))) ∙ m.is;
  }

  same-begin : (y z : Lexeme) (front before inside : List Lexeme) (quote : Lexeme) → test (meaning y) ≡ b → y ∷ front ≡ before ++ quote ∷ inside
      → (more : List Lexeme) → begins_with test ((before ++ quote ∷ []) ++ more) ≡ b
  same-begin y z front [] inside quote h e more = let same : y ≡ quote = cc in subst (λ (x : Lexeme). test (meaning x) ≡ b) same h
  same-begin y z front (w ∷ before) inside quote h e more = let same : y ≡ w = cc in subst (λ (x : Lexeme). test (meaning x) ≡ b) same h

  quotes-in : {limit : ℕ} (y : Lexeme) (front : List Lexeme) → test (meaning y) ≡ b → InQuotes whole limit (y ∷ front) → InQuotes branch limit (y ∷ front)
  quotes-in y front h q = record {
    before = q.before;
    inside = q.inside;
    quote = q.quote;
    whole = q.whole;
    is_quote = q.is_quote;
    unclosed = q.unclosed;
    opens = might-in (same-begin y y front q.before q.inside q.quote h q.whole) q.opens;
  }

  left-in : {limit : ℕ} (front : List Lexeme) {x : Lexeme} (rest : List Lexeme) → begins_with test (front ++ x ∷ rest) ≡ b → Left whole limit front x → Left branch limit front x
  left-in {limit} [] {x} rest h l = at_first limit x h l
  left-in (y ∷ front) rest h (a_field w m) = a_field w (might-in (λ more. h) m)
  left-in (y ∷ front) rest h (a_type w m) = a_type w (might-in (λ more. h) m)
  left-in (y ∷ front) rest h (a_way w m) = a_way w (might-in (λ more. h) m)
  left-in (y ∷ front) rest h (a_call w q) = a_call w (quotes-in y front h q)

  -- what the first lexeme is doesn't depend on what follows it
  begin-alike : (front : List Lexeme) (x : Lexeme) (rest more : List Lexeme) → begins_with test (front ++ x ∷ rest) ≡ b → begins_with test (front ++ x ∷ more) ≡ b
  begin-alike [] x rest more h = h
  begin-alike (y ∷ front) x rest more h = h

  here-whole : (limit : ℕ) (front at : List Lexeme) (why : ParseWhy) → begins_with test (front ++ at) ≡ b → Here branch limit front at why → Here whole limit front at why
  here-whole limit front [] why h here = here
  here-whole limit front (x ∷ rest) why h here = record {
    stays = λ more. as_branch limit (front ++ x ∷ more) (begin-alike front x rest more h) ∙ here.stays more;
    deep = λ e. let d = here.deep e in record {
      other = d.other;
      above = d.above;
      more = d.more;
      tree = d.tree;
      is = as_branch d.other (front ++ x ∷ d.more) (begin-alike front x rest d.more h) ∙ d.is;
    };
    flat = λ n limit' low more d e. here.flat n limit' low more d (sym (as_branch limit' (front ++ x ∷ more) (begin-alike front x rest more h)) ∙ e);
    going = here.going;
    leaves = λ e. left-longer branch whole limit [] (λ ys d e. as_branch limit ys (tests limit ys d e) ∙ e) (here.leaves e);
    keeps = λ e l. here.keeps e (left-in front rest h l);
  }

  pub stop-whole : {limit : ℕ} {xs : List Lexeme} {f : Stopped} → begins_with test xs ≡ b → Stop branch limit xs f → Stop whole limit xs f
  stop-whole {limit} {f} h s =
      let h' : begins_with test (s.front ++ f.at) ≡ b = ap (begins_with test) (sym s.whole) ∙ h in
      record { front = s.front; whole = s.whole; begins = ends-whole s.begins; here = here-whole limit s.front f.at f.why h' s.here }

module _ (test : Meaning → Bool) (plain : Plain test) (k other : Rest)
    (by_test : (limit : ℕ) (xs : List Lexeme) (d : Description) → k limit xs ≡ Ok d → begins_with test xs ≡ true)
    (else_ : (limit : ℕ) (xs : List Lexeme) (d : Description) → other limit xs ≡ Ok d → begins_with test xs ≡ false) where
  abbrev chosen : Rest
  chosen limit xs = cond (begins_with test xs) (k limit xs) (other limit xs)

  as-first : (limit : ℕ) (xs : List Lexeme) → begins_with test xs ≡ true → chosen limit xs ≡ k limit xs
  as-first limit xs h = ap (λ b. cond b (k limit xs) (other limit xs)) h

  as-other : (limit : ℕ) (xs : List Lexeme) → begins_with test xs ≡ false → chosen limit xs ≡ other limit xs
  as-other limit xs h = ap (λ b. cond b (k limit xs) (other limit xs)) h

  both : (x : Lexeme) (w : List ℕ) → meaning x ≡ Name w → test (meaning x) ≡ true → test (Name w) ≡ false → ⊥
  both x w h t f = let same = ap test h in cc

  -- a lexeme that passes the test is none that is left out
  passes : (limit : ℕ) (x : Lexeme) → test (meaning x) ≡ true → Left chosen limit [] x → Left k limit [] x
  passes limit x t (a_field w m) = absurd (both x w.0 w.1 t (plain.fields w.0 w.2))
  passes limit x t (a_type w m) = absurd (both x w.0 w.1 t (plain.types w.0 w.2))
  passes limit x t (a_way w m) = absurd (both x w.0 w.1 t (plain.ways w.0 w.2))
  passes limit x t (a_call h q) = absurd (nothing-in-quotes q)

  might-other : (limit : ℕ) (m : Meaning) → test m ≡ false → Might chosen limit [] m → Might other limit [] m
  might-other limit m t h = record {
    lexeme = h.lexeme;
    means = h.means;
    more = h.more;
    tree = h.tree;
    is = sym (as-other limit (h.lexeme ∷ h.more) (ap test h.means ∙ t)) ∙ h.is;
  }

  fails : (limit : ℕ) (x : Lexeme) → test (meaning x) ≡ false → Left chosen limit [] x → Left other limit [] x
  fails limit x t (a_field w m) = a_field w (might-other limit (Name (codes "simple")) plain.simple m)
  fails limit x t (a_type w m) = a_type w (might-other limit (Taken word.Bit) plain.bit m)
  fails limit x t (a_way w m) = a_way w (might-other limit (Name (codes "count")) plain.count m)
  fails limit x t (a_call h q) = absurd (nothing-in-quotes q)

  first-stop : {limit : ℕ} {xs : List Lexeme} {f : Stopped} → begins_with test xs ≡ true → Stop k limit xs f → Stop chosen limit xs f
  first-stop h s = stop-whole test chosen k true as-first by_test passes h s

  other-stop : {limit : ℕ} {xs : List Lexeme} {f : Stopped} → begins_with test xs ≡ false → Stop other limit xs f → Stop chosen limit xs f
  other-stop h s = stop-whole test chosen other false as-other else_ fails h s

  other-ends : {limit : ℕ} {front : List Lexeme} → Ends other limit front → Ends chosen limit front
  other-ends {limit} {front} e = record { more = e.more; tree = e.tree; is = as-other limit (front ++ e.more) (else_ limit (front ++ e.more) e.tree e.is) ∙ e.is }

  stops-by : {n : ℕ} → Good n k → Good n other → (limit : ℕ) → 1 ≤ limit → (xs : List Lexeme) → length xs ≤ n → (f : Stopped)
      → (b : Bool) → begins_with test xs ≡ b → chosen limit xs ≡ Err f → Stop chosen limit xs f
  stops-by good good' limit low xs le f true h e = first-stop h (good.stops limit low xs le f (sym (as-first limit xs h) ∙ e))
  stops-by good good' limit low xs le f false h e = other-stop h (good'.stops limit low xs le f (sym (as-other limit xs h) ∙ e))

  pub chosen-good : {n : ℕ} → Good n k → Good n other → Good n chosen
  chosen-good good good' = record {
    stops = λ limit low xs le f e. stops-by good good' limit low xs le f (begins_with test xs) refl e;
    some = λ limit low. other-ends (good'.some limit low);
  }

  stops-empty : {n : ℕ} → Good n other → (limit : ℕ) → 1 ≤ limit → (xs : List Lexeme) → length xs ≤ 0 → (f : Stopped) → chosen limit xs ≡ Err f → Stop chosen limit xs f
  stops-empty good' limit low [] le f e = other-stop refl (good'.stops limit low [] (omega arith) f e)
  stops-empty good' limit low (x ∷ xs) le f e = absurd (omega arith)

  -- of no lexeme at all, whatever the first one is
  pub empty-good : {n : ℕ} → Good n other → Good 0 chosen
  empty-good good' = record {
    stops = λ limit low xs le f e. stops-empty good' limit low xs le f e;
    some = λ limit low. other-ends (good'.some limit low);
  }
