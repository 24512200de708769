-- Where reading of an expression in quotes stops, with what follows it.
use Rattle.std.proofs.Common.{ℕ, suc, ◌≡◌, ◌≤◌, Bool, true, false, cond, nat_le, List, [], ◌∷◌, ◌++◌, codes, Ok, Err, length, refl, sym, ap, subst, ◌∙◌, arith, append_assoc, append-nil, length-append}
use Rattle.std.proofs.lemmas.Bool.{leb-true}
use Rattle.std.specs.List.{AllByRecursion}
use Rattle.mspec_tree.specs.declared.exprs.Expr.{Expr}
use Rattle.mspec_tree.specs.declared.defs.Description.{Description}
use Rattle.mspec_lexer.specs.Lexemes.{Lexeme}
use Rattle.mspec_lexer.specs.declared.tokens.Symbol.TheVariants as sign
use Rattle.mspec_grammar.specs.declared.faults.ParseWhy.{ParseWhy}
use Rattle.mspec_grammar.specs.declared.faults.ParseWhy.TheVariants.{Unexpected, EndOfText, LeftOut, TooDeep}
use Rattle.mspec_grammar.specs.declared.words.Word.TheVariants as word
use Rattle.mspec_grammar.specs.Meanings.{Meaning, meaning, Number, Sign, Taken, Name}
use Rattle.mspec_quotes.specs.declared.pending.Open.{Open}
use Rattle.mspec_quotes.specs.declared.pending.Open.TheVariants.{Parenthesis}
use Rattle.mspec_quotes.specs.Machine.{Mode, Move, Go, Finish, Stop as Halt, Operand, Stopped, step, least, why_of, then, read, behind_quote, read_quoted}
use Rattle.mspec_quotes.proofs.Reading.{read-go, read-finish, Stuck, stopped, deep, on, stops, stays, never}
use Rattle.mspec_quotes.proofs.Completing.{sign_lexeme, completes, begins, deeper}
use Rattle.mspec_quotes.proofs.QuoteLaws.{stuck-why, stuck-end}
use Rattle.mspec_parser.specs.Readers.{Read, ◌>>=◌, begins_with}
use Rattle.mspec_parser.proofs.LeftWords.{Rest, Might, NoQuote, InQuotes, Left, a_field, a_type, a_way, a_call, behind, within, split, nothing-in-quotes}
use Rattle.mspec_parser.proofs.Stops.{Ends, Deeper, Here, Stop, Good, Bars, opens, longer, stopped as halted}
use Rattle.mspec_parser.proofs.Behave.{Law, Starts}
use Rattle.mspec_parser.proofs.QuoteSteps.{finish-quote, stuck-unquoted, name-halts, bit-halts, halts-alike, why-call, why-name, call-left-out, never-end}

-- ---- what an expression that was read is made of

-- its lexemes, the last of which is a quote
record Used (limit : ℕ) (opens : List Open) (mode : Mode) (from : List Lexeme) (p : Expr × List Lexeme) : Type 0 where
  pub before : List Lexeme
  pub last : Lexeme
  pub is_quote : meaning last ≡ Sign sign.Quote
  pub whole : from ≡ (before ++ last ∷ []) ++ p.1
  pub up : (other : ℕ) → limit ≤ other → (ys : List Lexeme) → read other opens mode ((before ++ last ∷ []) ++ ys) ≡ Ok (p.0, ys)
  pub down : (other : ℕ) (ys : List Lexeme) (q : Expr × List Lexeme) → read other opens mode ((before ++ last ∷ []) ++ ys) ≡ Ok q → q ≡ (p.0, ys)

abbrev done : Expr × List Lexeme → Read Expr
done q = Ok q

same-done : (p q : Expr × List Lexeme) → done p ≡ done q → p ≡ q
same-done p q e = cc

moved : (limit : ℕ) (opens : List Open) (mode : Mode) (x : Lexeme) (rest : List Lexeme) {move : Move} → step opens mode (meaning x) x.place ≡ move
    → read limit opens mode (x ∷ rest) ≡ then limit x rest (λ o m. read limit o m rest) move
moved limit opens mode x rest e = ap (then limit x rest (λ o m. read limit o m rest)) e

went : (b : Bool) (x : Lexeme) (ys : List Lexeme) (later : Read Expr) (q : Expr × List Lexeme)
    → cond b later (Err (record { why = TooDeep; at = x ∷ ys })) ≡ Ok q → later ≡ Ok q
went true x ys later q e = e
went false x ys later q e = absurd (cc)

go-used : (limit : ℕ) (opens : List Open) (mode : Mode) (x : Lexeme) (from : List Lexeme) (p : Expr × List Lexeme) (opens' : List Open) (mode' : Mode)
    → step opens mode (meaning x) x.place ≡ Go opens' mode' → least opens' mode' ≤ limit → Used limit opens' mode' from p → Used limit opens mode (x ∷ from) p
go-used limit opens mode x from p opens' mode' moves fits u = record {
  before = x ∷ u.before;
  last = u.last;
  is_quote = u.is_quote;
  whole = ap (λ (ys : List Lexeme). x ∷ ys) u.whole;
  up = λ other above ys. read-go other opens mode x ((u.before ++ u.last ∷ []) ++ ys) opens' mode' moves (omega arith) ∙ u.up other above ys;
  down = λ other ys q e. u.down other ys q
      (went (nat_le (least opens' mode') other) x ((u.before ++ u.last ∷ []) ++ ys) (read other opens' mode' ((u.before ++ u.last ∷ []) ++ ys)) q
      (sym (moved other opens mode x ((u.before ++ u.last ∷ []) ++ ys) moves) ∙ e));
}

move-used : (limit : ℕ) (opens : List Open) (mode : Mode) (x : Lexeme) (from : List Lexeme) (p : Expr × List Lexeme)
    → ((o : List Open) (m : Mode) → read limit o m from ≡ Ok p → Used limit o m from p)
    → (move : Move) → step opens mode (meaning x) x.place ≡ move → then limit x from (λ o m. read limit o m from) move ≡ Ok p → Used limit opens mode (x ∷ from) p
move-used limit opens mode x from p further (Go opens' mode') moves e = by-depth (nat_le (least opens' mode') limit) refl e
  where
    by-depth : (b : Bool) → nat_le (least opens' mode') limit ≡ b
        → cond b (read limit opens' mode' from) (Err (record { why = TooDeep; at = x ∷ from })) ≡ Ok p → Used limit opens mode (x ∷ from) p
    by-depth true h e = go-used limit opens mode x from p opens' mode' moves (leb-true _ _ h) (further opens' mode' e)
    by-depth false h e = absurd (cc)
move-used limit opens mode x from p further (Finish expr) moves e =
    subst (λ (p : Expr × List Lexeme). Used limit opens mode (x ∷ from) p) (same-done (expr, from) p e) (record {
      before = [];
      last = x;
      is_quote = finish-quote opens mode (meaning x) x.place expr moves;
      whole = refl;
      up = λ other above ys. read-finish other opens mode x ys expr moves;
      down = λ other ys q h. same-done q (expr, ys) (sym h ∙ read-finish other opens mode x ys expr moves);
    })
move-used limit opens mode x from p further Halt moves e = absurd (cc)

used-of : (limit : ℕ) (opens : List Open) (mode : Mode) (from : List Lexeme) (p : Expr × List Lexeme) → read limit opens mode from ≡ Ok p → Used limit opens mode from p
used-of limit opens mode [] p e = absurd (cc)
used-of limit opens mode (x ∷ from) p e = move-used limit opens mode x from p (λ o m. used-of limit o m from p) _ refl e

-- what is read to its end is read with whatever follows it
goes-on : (limit : ℕ) (from : List Lexeme) (e : Expr) → read limit [] Operand from ≡ Ok (e, []) → (ys : List Lexeme) → read limit [] Operand (from ++ ys) ≡ Ok (e, ys)
goes-on limit from e h ys =
    let u = used-of limit [] Operand from (e, []) h in
    let same : from ≡ u.before ++ u.last ∷ [] = u.whole ∙ append-nil (u.before ++ u.last ∷ []) in
    ap (λ (f : List Lexeme). read limit [] Operand (f ++ ys)) same ∙ u.up limit (omega arith) ys

not-ended : {limit : ℕ} {opens : List Open} {mode : Mode} {front rest : List Lexeme} {x : Lexeme} {why : ParseWhy} → Stuck limit opens mode front (x ∷ rest) why → why ≡ EndOfText → ⊥
not-ended (stopped {x} moves) e = never-end (meaning x) e
not-ended (deep moves past) e = cc
not-ended (on moves fits later) e = not-ended later e

-- a list that ends by a lexeme
last-part : (between inside : List Lexeme) (x last : Lexeme) → last ∷ [] ≡ between ++ x ∷ inside → between ≡ []
last-part [] inside x last e = refl
last-part (y ∷ []) inside x last e = absurd (cc)
last-part (y ∷ z ∷ between) inside x last e = absurd (cc)

last-is : (between inside : List Lexeme) (x last : Lexeme) → last ∷ [] ≡ between ++ x ∷ inside → x ≡ last
last-is [] inside x last e = cc
last-is (y ∷ []) inside x last e = absurd (cc)
last-is (y ∷ z ∷ between) inside x last e = absurd (cc)

up-to-last : (used between before inside : List Lexeme) (x last : Lexeme) → before ≡ used ++ between → last ∷ [] ≡ between ++ x ∷ inside
    → before ++ x ∷ [] ≡ used ++ last ∷ []
up-to-last used between before inside x last e f =
    let none : before ≡ used = e ∙ ap (λ (ys : List Lexeme). used ++ ys) (last-part between inside x last f) ∙ append-nil used in
    ap (λ (ys : List Lexeme). ys ++ x ∷ []) none ∙ ap (λ (y : Lexeme). used ++ y ∷ []) (last-is between inside x last f)

last-one : (P : Lexeme → Type 0) (between : List Lexeme) (last : Lexeme) → AllByRecursion P (between ++ last ∷ []) → P last
last-one P [] last h = h.0
last-one P (y ∷ between) last h = last-one P between last h.1

-- ---- an expression and what follows it

module _ (k : Expr → Rest) where
  abbrev whole : Rest
  whole limit xs = read_quoted limit xs >>= λ p. k p.0 limit p.1

  opened : (q : Lexeme) → meaning q ≡ Sign sign.Quote → (limit : ℕ) (from : List Lexeme) → read_quoted limit (q ∷ from) ≡ read limit [] Operand from
  opened q h limit from = ap (λ m. behind_quote limit m q from) h

  reads-on : (q : Lexeme) → meaning q ≡ Sign sign.Quote → (limit : ℕ) (from ys : List Lexeme) (e : Expr) → read limit [] Operand from ≡ Ok (e, ys) → whole limit (q ∷ from) ≡ k e limit ys
  reads-on q h limit from ys e r = ap (λ (r : Read Expr). r >>= λ p. k p.0 limit p.1) (opened q h limit from ∙ r)

  halts : (q : Lexeme) → meaning q ≡ Sign sign.Quote → (limit : ℕ) (from : List Lexeme) (f : Stopped) → read limit [] Operand from ≡ Err f → whole limit (q ∷ from) ≡ Err f
  halts q h limit from f r = ap (λ (r : Read Expr). r >>= λ p. k p.0 limit p.1) (opened q h limit from ∙ r)

  never-halted : (q : Lexeme) → meaning q ≡ Sign sign.Quote → (limit : ℕ) (from : List Lexeme) (f : Stopped) (d : Description) → read limit [] Operand from ≡ Err f
      → whole limit (q ∷ from) ≡ Ok d → ⊥
  never-halted q h limit from f d r e = let stop = halts q h limit from f r in cc

  module _ {n : ℕ} (good : (e : Expr) → Good n (k e)) where
    completed : (q : Lexeme) → meaning q ≡ Sign sign.Quote → (limit : ℕ) → 1 ≤ limit → (front more : List Lexeme) (e : Expr)
        → read limit [] Operand (front ++ more) ≡ Ok (e, []) → Ends whole limit (q ∷ front)
    completed q h limit low front more e r =
        let rest = (good e).some limit low in
        record {
          more = more ++ rest.more;
          tree = rest.tree;
          is = reads-on q h limit (front ++ (more ++ rest.more)) rest.more e
              (ap (read limit [] Operand) (sym (append_assoc front more rest.more)) ∙ goes-on limit (front ++ more) e r rest.more) ∙ rest.is;
        }

    from-nothing : (limit : ℕ) → 1 ≤ limit → Ends whole limit []
    from-nothing limit low =
        let c = completes limit [] Operand (omega arith) in
        let e = completed (sign_lexeme sign.Quote) refl limit low [] c.more c.expr c.is in
        record { more = sign_lexeme sign.Quote ∷ e.more; tree = e.tree; is = e.is }

    -- a parenthesis might follow the quote
    might-open : (q : Lexeme) → meaning q ≡ Sign sign.Quote → (limit : ℕ) → 1 ≤ limit → Might whole limit (q ∷ []) (Sign sign.LeftParenthesis)
    unfolding step
    might-open q h limit low =
        let c = completes limit (Parenthesis ∷ []) Operand (omega arith) in
        let r : read limit [] Operand (sign_lexeme sign.LeftParenthesis ∷ c.more) ≡ Ok (c.expr, []) =
        read-go limit [] Operand (sign_lexeme sign.LeftParenthesis) c.more (Parenthesis ∷ []) Operand refl (omega arith) ∙ c.is in
        let e = completed q h limit low [] (sign_lexeme sign.LeftParenthesis ∷ c.more) c.expr r in
        let rest = (good c.expr).some limit low in
        record {
          lexeme = sign_lexeme sign.LeftParenthesis;
          means = refl;
          more = c.more ++ rest.more;
          tree = rest.tree;
          is = reads-on q h limit (sign_lexeme sign.LeftParenthesis ∷ (c.more ++ rest.more)) rest.more c.expr
              (goes-on limit (sign_lexeme sign.LeftParenthesis ∷ c.more) c.expr r rest.more) ∙ rest.is;
        }

    flat-at : (q x : Lexeme) → meaning q ≡ Sign sign.Quote → (front : List Lexeme) (other : ℕ) (more : List Lexeme) (d : Description)
        → ((r : Expr × List Lexeme) → read other [] Operand (front ++ x ∷ more) ≡ Ok r → ⊥) → (r : Read Expr) → read other [] Operand (front ++ x ∷ more) ≡ r
        → whole other (q ∷ (front ++ x ∷ more)) ≡ Ok d → ⊥
    flat-at q x h front other more d refused (Ok r) e got = refused r e
    flat-at q x h front other more d refused (Err f) e got = never-halted q h other (front ++ x ∷ more) f d e got

    deep-at : (q : Lexeme) → meaning q ≡ Sign sign.Quote → (limit : ℕ) → 1 ≤ limit → (front rest : List Lexeme) (x : Lexeme) (why : ParseWhy)
        → Stuck limit [] Operand front (x ∷ rest) why → why ≡ TooDeep → Deeper whole limit (q ∷ front) x
    deep-at q h limit low front rest x why stuck e =
        let d = deeper stuck e in
        let above : limit ≤ d.other = d.above in
        let end = (good d.expr).some d.other (omega arith) in
        record {
          other = d.other;
          above = above;
          more = d.more ++ end.more;
          tree = end.tree;
          is = reads-on q h d.other (front ++ x ∷ (d.more ++ end.more)) end.more d.expr
              (ap (read d.other [] Operand) (sym (append_assoc front (x ∷ d.more) end.more)) ∙ goes-on d.other (front ++ x ∷ d.more) d.expr d.is end.more) ∙ end.is;
        }

    leaves-at : (q : Lexeme) → meaning q ≡ Sign sign.Quote → (limit : ℕ) → 1 ≤ limit → (front rest : List Lexeme) (x : Lexeme) (why : ParseWhy)
        → Stuck limit [] Operand front (x ∷ rest) why → why ≡ LeftOut → Left whole limit (q ∷ front) x
    leaves-at q h limit low front rest x why stuck e =
        let flat : why ≡ TooDeep → ⊥ = λ e'. cc in
        a_call (why-call (meaning x) (sym (stuck-why stuck flat) ∙ e)) (record {
          before = [];
          inside = front;
          quote = q;
          whole = refl;
          is_quote = h;
          unclosed = stuck-unquoted stuck;
          opens = might-open q h limit low;
        })

    -- where a name stops reading, another one in its place does too
    no-name : (q : Lexeme) → meaning q ≡ Sign sign.Quote → (limit : ℕ) (front rest : List Lexeme) (x : Lexeme) (why : ParseWhy)
        → Stuck limit [] Operand front (x ∷ rest) why → why ≡ Unexpected → (w : List ℕ) → meaning x ≡ Name w → (other : List ℕ) → Might whole limit (q ∷ front) (Name other) → ⊥
    no-name q h limit front rest x why stuck e w means other m =
        let flat : why ≡ TooDeep → ⊥ = λ e'. cc in
        let free = why-name w (sym (stuck-why stuck flat ∙ ap why_of means) ∙ e) in
        let stop = halts-alike stuck flat m.lexeme
        (λ o mode s. subst (λ (n : Meaning). step o mode n m.lexeme.place ≡ Halt) (sym m.means)
        (name-halts o mode w x.place (sym (ap (λ (n : Meaning). step o mode n x.place) means) ∙ s) free other m.lexeme.place)) m.more in
        never-halted q h limit (front ++ m.lexeme ∷ m.more) (halted (why_of (meaning m.lexeme)) (m.lexeme ∷ m.more)) m.tree stop m.is

    no-type : (q : Lexeme) → meaning q ≡ Sign sign.Quote → (limit : ℕ) (front rest : List Lexeme) (x : Lexeme) (why : ParseWhy)
        → Stuck limit [] Operand front (x ∷ rest) why → why ≡ Unexpected → Might whole limit (q ∷ front) (Taken word.Bit) → ⊥
    no-type q h limit front rest x why stuck e m =
        let flat : why ≡ TooDeep → ⊥ = λ e'. cc in
        let stop = halts-alike stuck flat m.lexeme
        (λ o mode s. subst (λ (n : Meaning). step o mode n m.lexeme.place ≡ Halt) (sym m.means) (bit-halts o mode m.lexeme.place)) m.more in
        never-halted q h limit (front ++ m.lexeme ∷ m.more) (halted (why_of (meaning m.lexeme)) (m.lexeme ∷ m.more)) m.tree stop m.is

    keeps-at : (q : Lexeme) → meaning q ≡ Sign sign.Quote → (limit : ℕ) (front rest : List Lexeme) (x : Lexeme) (why : ParseWhy)
        → Stuck limit [] Operand front (x ∷ rest) why → why ≡ Unexpected → Left whole limit (q ∷ front) x → ⊥
    keeps-at q h limit front rest x why stuck e (a_field w m) = no-name q h limit front rest x why stuck e w.0 w.1 (codes "simple") m
    keeps-at q h limit front rest x why stuck e (a_type w m) = no-type q h limit front rest x why stuck e m
    keeps-at q h limit front rest x why stuck e (a_way w m) = no-name q h limit front rest x why stuck e w.0 w.1 (codes "count") m
    keeps-at q h limit front rest x why stuck e (a_call w m) =
        let flat : why ≡ TooDeep → ⊥ = λ e'. cc in
        let same = stuck-why stuck flat in
        let left = ap why_of w ∙ call-left-out in
        cc

    here-of : (q : Lexeme) → meaning q ≡ Sign sign.Quote → (limit : ℕ) → 1 ≤ limit → (front at : List Lexeme) (why : ParseWhy)
        → Stuck limit [] Operand front at why → Here whole limit (q ∷ front) at why
    here-of q h limit low front [] why stuck = stuck-end stuck
    here-of q h limit low front (x ∷ rest) why stuck = record {
      stays = λ more. halts q h limit (front ++ x ∷ more) (record { why = why; at = x ∷ more }) (stays stuck more);
      deep = λ e. deep-at q h limit low front rest x why stuck e;
      flat = λ flat other low' more d e. flat-at q x h front other more d (λ r r'. never stuck flat other more r r') (read other [] Operand (front ++ x ∷ more)) refl e;
      going = λ e. not-ended stuck e;
      leaves = λ e. leaves-at q h limit low front rest x why stuck e;
      keeps = λ e l. keeps-at q h limit front rest x why stuck e l;
    }

    module _ (bars : (e : Expr) → Bars opens (k e)) where
      -- no parenthesis follows an expression
      no-parenthesis : (q : Lexeme) → meaning q ≡ Sign sign.Quote → (limit : ℕ) (used : List Lexeme) (e : Expr)
          → ((ys : List Lexeme) → read limit [] Operand (used ++ ys) ≡ Ok (e, ys)) → Might whole limit (q ∷ used) (Sign sign.LeftParenthesis) → ⊥
      no-parenthesis q h limit used e up m =
          let behind = reads-on q h limit (used ++ m.lexeme ∷ m.more) (m.lexeme ∷ m.more) e (up (m.lexeme ∷ m.more)) in
          let barred = (bars e).is limit (m.lexeme ∷ m.more) m.tree (sym behind ∙ m.is) in
          let open_ : opens (meaning m.lexeme) ≡ true = ap opens m.means in
          cc

      -- behind the expression nothing is in quotes
      closed-apart : (q : Lexeme) → meaning q ≡ Sign sign.Quote → (limit : ℕ) (before : List Lexeme) (last : Lexeme) → meaning last ≡ Sign sign.Quote → (e : Expr)
          → ((ys : List Lexeme) → read limit [] Operand ((before ++ last ∷ []) ++ ys) ≡ Ok (e, ys)) → InQuotes whole limit (q ∷ (before ++ last ∷ [])) → ⊥
      closed-apart q h limit before last is_quote e up i = elim (split (q ∷ before) (last ∷ []) i.before i.inside i.quote i.whole) [
        | behind between f g ↦ no-parenthesis q h limit (before ++ last ∷ []) e up
            (subst (λ (ys : List Lexeme). Might whole limit ys (Sign sign.LeftParenthesis)) (up-to-last (q ∷ before) between i.before i.inside i.quote last f g) i.opens)
        | within between f g ↦ last-one NoQuote between last (subst (λ (ys : List Lexeme). AllByRecursion NoQuote ys) g i.unclosed) is_quote
      ]

      down-of : (q : Lexeme) → meaning q ≡ Sign sign.Quote → (limit : ℕ) (from : List Lexeme) (p : Expr × List Lexeme) (u : Used limit [] Operand from p)
          (other : ℕ) (ys : List Lexeme) (d : Description) (got : Read Expr) → read other [] Operand ((u.before ++ u.last ∷ []) ++ ys) ≡ got
          → whole other (q ∷ ((u.before ++ u.last ∷ []) ++ ys)) ≡ Ok d → k p.0 other ys ≡ Ok d
      down-of q h limit from p u other ys d (Ok g) r e =
          let same = u.down other ys g r in
          sym (reads-on q h other ((u.before ++ u.last ∷ []) ++ ys) ys p.0 (r ∙ ap done same)) ∙ e
      down-of q h limit from p u other ys d (Err f) r e = absurd (never-halted q h other ((u.before ++ u.last ∷ []) ++ ys) f d r e)

      stops-behind : (q : Lexeme) → meaning q ≡ Sign sign.Quote → (limit : ℕ) → 1 ≤ limit → (from : List Lexeme) → length from ≤ n
          → (p : Expr × List Lexeme) → read limit [] Operand from ≡ Ok p → (f : Stopped) → whole limit (q ∷ from) ≡ Err f → Stop whole limit (q ∷ from) f
      stops-behind q h limit low from le p r f e =
          let u = used-of limit [] Operand from p r in
          let lengths = ap length u.whole in
          let parts = length-append (u.before ++ u.last ∷ []) p.1 in
          let s = (good p.0).stops limit low p.1 (omega arith) f (sym (reads-on q h limit from p.1 p.0 r) ∙ e) in
          let all = longer (k p.0) whole limit (q ∷ (u.before ++ u.last ∷ []))
          (λ other above ys. reads-on q h other ((u.before ++ u.last ∷ []) ++ ys) ys p.0 (u.up other above ys))
          (λ other low ys d got. down-of q h limit from p u other ys d (read other [] Operand ((u.before ++ u.last ∷ []) ++ ys)) refl got)
          (λ i. closed-apart q h limit u.before u.last u.is_quote p.0 (λ ys. u.up limit (omega arith) ys) i) s in
          subst (λ (xs : List Lexeme). Stop whole limit (q ∷ xs) f) (sym u.whole) all

      stops-inside : (q : Lexeme) → meaning q ≡ Sign sign.Quote → (limit : ℕ) → 1 ≤ limit → (from : List Lexeme) → length from ≤ n
          → (r : Read Expr) → read limit [] Operand from ≡ r → (f : Stopped) → whole limit (q ∷ from) ≡ Err f → Stop whole limit (q ∷ from) f
      stops-inside q h limit low from le (Ok p) r f e = stops-behind q h limit low from le p r f e
      stops-inside q h limit low from le (Err g) r f e =
          let s = stops limit [] Operand from g r in
          let same : g ≡ f = let stop = halts q h limit from g r in cc in
          let b = begins s.stuck (omega arith) in
          let all : Stop whole limit (q ∷ from) g = record {
            front = q ∷ s.front;
            whole = ap (λ (xs : List Lexeme). q ∷ xs) s.whole;
            begins = completed q h limit low s.front b.0 b.1 b.2;
            here = here-of q h limit low s.front g.at g.why s.stuck;
          } in
          subst (λ (f : Stopped). Stop whole limit (q ∷ from) f) same all

    other-halts : (x : Lexeme) (m : Meaning) → meaning x ≡ m → (m ≡ Sign sign.Quote → ⊥) → (limit : ℕ) (rest : List Lexeme)
        → whole limit (x ∷ rest) ≡ Err (record { why = Unexpected; at = x ∷ rest })
    other-halts x (Number n) h unlike limit rest = ap (λ m. behind_quote limit m x rest >>= λ p. k p.0 limit p.1) h
    other-halts x (Taken w) h unlike limit rest = ap (λ m. behind_quote limit m x rest >>= λ p. k p.0 limit p.1) h
    other-halts x (Name n) h unlike limit rest = ap (λ m. behind_quote limit m x rest >>= λ p. k p.0 limit p.1) h
    other-halts x (Sign sign.Quote) h unlike limit rest = absurd (unlike refl)
    other-halts x (Sign s) h unlike limit rest = ap (λ m. behind_quote limit m x rest >>= λ p. k p.0 limit p.1) h

    might-not : (limit : ℕ) (m : Meaning) → (m ≡ Sign sign.Quote → ⊥) → Might whole limit [] m → ⊥
    might-not limit m unlike h = let r = other-halts h.lexeme m h.means unlike limit h.more in let e = h.is in cc

    keeps-first : (limit : ℕ) (x : Lexeme) → Left whole limit [] x → ⊥
    keeps-first limit x (a_field w m) = might-not limit (Name (codes "simple")) (λ e. cc) m
    keeps-first limit x (a_type w m) = might-not limit (Taken word.Bit) (λ e. cc) m
    keeps-first limit x (a_way w m) = might-not limit (Name (codes "count")) (λ e. cc) m
    keeps-first limit x (a_call h q) = nothing-in-quotes q

    stops-before : (limit : ℕ) → 1 ≤ limit → (x : Lexeme) (rest : List Lexeme) (f : Stopped)
        → ((limit : ℕ) (rest : List Lexeme) → whole limit (x ∷ rest) ≡ Err (record { why = Unexpected; at = x ∷ rest })) → whole limit (x ∷ rest) ≡ Err f → Stop whole limit (x ∷ rest) f
    stops-before limit low x rest f refused e =
        let r = refused limit rest in
        let same : record { why = Unexpected; at = x ∷ rest } ≡ f = cc in
        subst (λ (f : Stopped). Stop whole limit (x ∷ rest) f) same (record {
          front = [];
          whole = refl;
          begins = from-nothing limit low;
          here = record {
            stays = λ more. refused limit more;
            deep = λ e. absurd (cc);
            flat = λ n other low more d e. let r' = refused other more in cc;
            going = λ e. cc;
            leaves = λ e. absurd (cc);
            keeps = λ e l. keeps-first limit x l;
          };
        })

    module _ (bars : (e : Expr) → Bars opens (k e)) where
      stops-first : (limit : ℕ) → 1 ≤ limit → (x : Lexeme) (rest : List Lexeme) → length rest ≤ n → (f : Stopped) → whole limit (x ∷ rest) ≡ Err f
          → (m : Meaning) → meaning x ≡ m → Stop whole limit (x ∷ rest) f
      stops-first limit low x rest le f e (Sign sign.Quote) h = stops-inside bars x h limit low rest le (read limit [] Operand rest) refl f e
      stops-first limit low x rest le f e (Sign s) h = stops-before limit low x rest f (λ limit rest. other-halts x (Sign s) h (λ e. cc) limit rest) e
      stops-first limit low x rest le f e (Number n) h = stops-before limit low x rest f (λ limit rest. other-halts x (Number n) h (λ e. cc) limit rest) e
      stops-first limit low x rest le f e (Taken w) h = stops-before limit low x rest f (λ limit rest. other-halts x (Taken w) h (λ e. cc) limit rest) e
      stops-first limit low x rest le f e (Name n) h = stops-before limit low x rest f (λ limit rest. other-halts x (Name n) h (λ e. cc) limit rest) e

      stops-in : (limit : ℕ) → 1 ≤ limit → (xs : List Lexeme) → length xs ≤ suc n → (f : Stopped) → whole limit xs ≡ Err f → Stop whole limit xs f
      stops-in limit low [] le f e =
          let same : halted EndOfText [] ≡ f = cc in
          subst (λ (f : Stopped). Stop whole limit [] f) same (record { front = []; whole = refl; begins = from-nothing limit low; here = refl })
      stops-in limit low (x ∷ rest) le f e = stops-first limit low x rest (omega arith) f e (meaning x) refl

      whole-good : Good (suc n) whole
      whole-good = record { stops = λ limit low xs le f e. stops-in limit low xs le f e; some = λ limit low. from-nothing limit low }

-- ---- an expression

behind-read : (limit : ℕ) (x : Lexeme) (rest : List Lexeme) (p : Expr × List Lexeme) (m : Meaning) → behind_quote limit m x rest ≡ Ok p
    → (m ≡ Sign sign.Quote) × (read limit [] Operand rest ≡ Ok p)
behind-read limit x rest p (Sign sign.Quote) e = (refl, e)
behind-read limit x rest p (Sign s) e = absurd (cc)
behind-read limit x rest p (Number n) e = absurd (cc)
behind-read limit x rest p (Taken w) e = absurd (cc)
behind-read limit x rest p (Name n) e = absurd (cc)

quoted-shrinks : (limit : ℕ) (xs : List Lexeme) (p : Expr × List Lexeme) → read_quoted limit xs ≡ Ok p → suc (length p.1) ≤ length xs
quoted-shrinks limit [] p e = absurd (cc)
quoted-shrinks limit (x ∷ rest) p e =
    let u = used-of limit [] Operand rest p (behind-read limit x rest p (meaning x) e).1 in
    let lengths = ap length u.whole in
    let parts = length-append (u.before ++ u.last ∷ []) p.1 in
    omega arith

pub quoted-law : Law true opens read_quoted
quoted-law = record {
  good = λ n k good bars. whole-good k good bars;
  shrinks = quoted-shrinks;
}

-- an expression begins with its quote
pub quoted-starts : (test : Meaning → Bool) (b : Bool) → test (Sign sign.Quote) ≡ b → Starts test b read_quoted
quoted-starts test b h = record { is = λ limit xs p e. by-list limit xs p e }
  where
    by-list : (limit : ℕ) (xs : List Lexeme) (p : Expr × List Lexeme) → read_quoted limit xs ≡ Ok p → begins_with test xs ≡ b
    by-list limit [] p e = absurd (cc)
    by-list limit (x ∷ rest) p e = ap test (behind-read limit x rest p (meaning x) e).0 ∙ h
