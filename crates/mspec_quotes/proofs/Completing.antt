-- Whatever is open can be completed.
use Rattle.std.proofs.Common.{ℕ, ◌≡◌, ◌≤◌, Bool, List, [], ◌∷◌, ◌++◌, true, false, cond, Ok, refl, sym, ap, subst, ◌∙◌, arith, codes}
use Rattle.std.proofs.lemmas.Bool.{le-leb}
use Rattle.std.specs.Str.{bytes_eq}
use Rattle.mspec_tree.specs.declared.words.Place.{Place}
use Rattle.mspec_tree.specs.declared.words.Lit.TheVariants.{Num}
use Rattle.mspec_tree.specs.declared.exprs.Expr.{Expr}
use Rattle.mspec_tree.specs.declared.exprs.Shape.TheVariants as shape
use Rattle.mspec_tree.specs.Depth.{depth}
use Rattle.mspec_lexer.specs.Lexemes.{Lexeme}
use Rattle.mspec_lexer.specs.declared.tokens.Symbol.{Symbol}
use Rattle.mspec_lexer.specs.declared.tokens.Symbol.TheVariants as sign
use Rattle.mspec_lexer.specs.declared.tokens.TokenKind.TheVariants as kind
use Rattle.mspec_grammar.specs.declared.faults.ParseWhy.{ParseWhy}
use Rattle.mspec_grammar.specs.declared.faults.ParseWhy.TheVariants.{Unexpected, LeftOut, TooDeep}
use Rattle.mspec_grammar.specs.Expressions.{strength}
use Rattle.mspec_grammar.specs.Meanings.{Meaning, meaning, word_of, Number, Sign, Taken, Name, static_call}
use Rattle.mspec_quotes.specs.declared.pending.Open.{Open}
use Rattle.mspec_quotes.specs.declared.pending.Open.TheVariants.{Parenthesis, Count, Cast, Not, Neg, Left, Condition, Otherwise}
use Rattle.mspec_quotes.specs.Machine.{Mode, Operand, Behind, Opening, Path, CaseName, CaseQuoted, CaseQuote, CaseEnd, made, closes, closed, closed_by, at_parenthesis, at_comma, at_colon, at_quote, step, whole, least, why_of, then, read}
use Rattle.mspec_quotes.proofs.Depths.{depth-count, depth-cast, depth-lit, depth-dot, whole-closed}
use Rattle.mspec_quotes.proofs.Reading.{read-go, read-finish, Stuck, ended, stopped, deep, on}

pub nowhere : Place
nowhere = record { line = 1; column = 1 }

abbrev pub sign_lexeme : Symbol → Lexeme
sign_lexeme symbol = record { kind = kind.Symbol symbol; text = []; place = nowhere }

abbrev one_lexeme : Lexeme
one_lexeme = record { kind = kind.Number 1; text = []; place = nowhere }

abbrev name_lexeme : Lexeme
name_lexeme = record { kind = kind.Name; text = codes "a"; place = nowhere }

means_name : meaning name_lexeme ≡ Name (codes "a")
unfolding word_of
means_name = refl

-- what closes all that is open behind an operand
abbrev closers : List Open → List Lexeme
closers [] = sign_lexeme sign.Quote ∷ []
closers (Parenthesis ∷ opens) = sign_lexeme sign.RightParenthesis ∷ closers opens
closers (Count place ∷ opens) = sign_lexeme sign.RightParenthesis ∷ closers opens
closers (Cast place ∷ opens) = sign_lexeme sign.Comma ∷ name_lexeme ∷ sign_lexeme sign.RightParenthesis ∷ closers opens
closers (Not place ∷ opens) = closers opens
closers (Neg place ∷ opens) = closers opens
closers (Left place operator a ∷ opens) = closers opens
closers (Condition place c ∷ opens) = sign_lexeme sign.Colon ∷ one_lexeme ∷ closers opens
closers (Otherwise place c a ∷ opens) = closers opens

data IsCloser : Symbol → Type 0 where
  parenthesis : IsCloser sign.RightParenthesis
  comma : IsCloser sign.Comma
  colon : IsCloser sign.Colon
  quote : IsCloser sign.Quote

record BeginsByCloser (xs : List Lexeme) : Type 0 where
  pub symbol : Symbol
  pub closer : IsCloser symbol
  pub rest : List Lexeme
  pub is : xs ≡ sign_lexeme symbol ∷ rest

closers-begin : (opens : List Open) → BeginsByCloser (closers opens)
closers-begin [] = record { symbol = sign.Quote; closer = quote; rest = _; is = refl }
closers-begin (Parenthesis ∷ opens) = record { symbol = sign.RightParenthesis; closer = parenthesis; rest = _; is = refl }
closers-begin (Count place ∷ opens) = record { symbol = sign.RightParenthesis; closer = parenthesis; rest = _; is = refl }
closers-begin (Cast place ∷ opens) = record { symbol = sign.Comma; closer = comma; rest = _; is = refl }
closers-begin (Not place ∷ opens) = closers-begin opens
closers-begin (Neg place ∷ opens) = closers-begin opens
closers-begin (Left place operator a ∷ opens) = closers-begin opens
closers-begin (Condition place c ∷ opens) = record { symbol = sign.Colon; closer = colon; rest = _; is = refl }
closers-begin (Otherwise place c a ∷ opens) = closers-begin opens

closed-on : (o : Open) (opens : List Open) (e : Expr) → closes 0 o ≡ true → closed 0 (o ∷ opens) e ≡ closed 0 opens (closed_by o e)
closed-on o opens e h = ap (λ b. cond b (closed 0 opens (closed_by o e)) (record { opens = o ∷ opens; operand = e })) h

-- a closer finds the same, whether what it closes is closed yet or not
step-closed : (symbol : Symbol) → IsCloser symbol → (o : Open) (opens : List Open) (e : Expr) (place : Place) → closes 0 o ≡ true
    → step (o ∷ opens) (Behind e) (Sign symbol) place ≡ step opens (Behind (closed_by o e)) (Sign symbol) place
unfolding step
step-closed symbol parenthesis o opens e place h = ap (λ c. at_parenthesis c.opens c.operand) (closed-on o opens e h)
step-closed symbol comma o opens e place h = ap (λ c. at_comma c.opens c.operand) (closed-on o opens e h)
step-closed symbol colon o opens e place h = ap (λ c. at_colon c.opens c.operand) (closed-on o opens e h)
step-closed symbol quote o opens e place h = ap (λ c. at_quote c.opens c.operand) (closed-on o opens e h)

read-closed : (limit : ℕ) (xs : List Lexeme) → BeginsByCloser xs → (o : Open) (opens : List Open) (e : Expr) → closes 0 o ≡ true
    → read limit (o ∷ opens) (Behind e) xs ≡ read limit opens (Behind (closed_by o e)) xs
read-closed limit xs begins o opens e h =
    let same : read limit (o ∷ opens) (Behind e) (sign_lexeme begins.symbol ∷ begins.rest) ≡ read limit opens (Behind (closed_by o e)) (sign_lexeme begins.symbol ∷ begins.rest)
    = ap (then limit (sign_lexeme begins.symbol) begins.rest (λ opens mode. read limit opens mode begins.rest))
    (step-closed begins.symbol begins.closer o opens e nowhere h) in
    subst (λ (ys : List Lexeme). read limit (o ∷ opens) (Behind e) ys ≡ read limit opens (Behind (closed_by o e)) ys) (sym begins.is) same

pub record Ends (limit : ℕ) (opens : List Open) (e : Expr) : Type 0 where
  pub expr : Expr
  pub is : read limit opens (Behind e) (closers opens) ≡ Ok (expr, [])

ends-closed : (limit : ℕ) (o : Open) (opens : List Open) (e : Expr) → closes 0 o ≡ true → closers (o ∷ opens) ≡ closers opens
    → Ends limit opens (closed_by o e) → Ends limit (o ∷ opens) e
ends-closed limit o opens e h same ends = record {
  expr = ends.expr;
  is = ap (read limit (o ∷ opens) (Behind e)) same ∙ read-closed limit (closers opens) (closers-begin opens) o opens e h ∙ ends.is;
}

one : Expr
one = made nowhere (shape.Lit (Num false 1))

depth-one : depth one ≡ 1
unfolding one
depth-one = depth-lit nowhere (Num false 1)

read-one : (limit : ℕ) (opens : List Open) (rest : List Lexeme) → whole opens 1 ≤ limit
    → read limit opens Operand (one_lexeme ∷ rest) ≡ read limit opens (Behind one) rest
unfolding step one
read-one limit opens rest fits = read-go limit opens Operand one_lexeme rest opens (Behind one) refl (rw depth-one fits)

free-name : bytes_eq (codes "a") static_call ≡ false
free-name = refl

pub ends : (limit : ℕ) (opens : List Open) (e : Expr) → whole opens (depth e) ≤ limit → Ends limit opens e
unfolding step word_of
ends limit [] e fits = record { expr = e; is = read-finish limit [] (Behind e) (sign_lexeme sign.Quote) [] e refl }
ends limit (Parenthesis ∷ opens) e fits =
    let later = ends limit opens e fits in
    record { expr = later.expr; is = read-go limit (Parenthesis ∷ opens) (Behind e) (sign_lexeme sign.RightParenthesis) (closers opens) opens (Behind e) refl fits ∙ later.is }
ends limit (Count place ∷ opens) e fits =
    let made_fits : whole opens (depth (made place (shape.Count e))) ≤ limit = rw depth-count fits in
    let later = ends limit opens (made place (shape.Count e)) made_fits in
    record {
      expr = later.expr;
      is = read-go limit (Count place ∷ opens) (Behind e) (sign_lexeme sign.RightParenthesis) (closers opens) opens (Behind (made place (shape.Count e))) refl made_fits ∙ later.is;
    }
ends limit (Cast place ∷ opens) e fits =
    let cast : Expr = made place (shape.Cast e (codes "a")) in
    let made_fits : whole opens (depth cast) ≤ limit = rw (depth-cast place e (codes "a")) fits in
    let later = ends limit opens cast made_fits in
    record {
      expr = later.expr;
      is =
          read-go limit (Cast place ∷ opens) (Behind e) (sign_lexeme sign.Comma) (name_lexeme ∷ sign_lexeme sign.RightParenthesis ∷ closers opens) opens (CaseName place e) refl fits
          ∙ (read-go limit opens (CaseName place e) name_lexeme (sign_lexeme sign.RightParenthesis ∷ closers opens) opens (CaseEnd place e (codes "a")) refl fits
          ∙ (read-go limit opens (CaseEnd place e (codes "a")) (sign_lexeme sign.RightParenthesis) (closers opens) opens (Behind cast) refl made_fits
          ∙ later.is));
    }
ends limit (Not place ∷ opens) e fits = ends-closed limit (Not place) opens e refl refl (ends limit opens _ (rw (whole-closed 0 (Not place) opens e refl) fits))
ends limit (Neg place ∷ opens) e fits = ends-closed limit (Neg place) opens e refl refl (ends limit opens _ (rw (whole-closed 0 (Neg place) opens e refl) fits))
ends limit (Left place operator a ∷ opens) e fits =
    let h : closes 0 (Left place operator a) ≡ true = le-leb 0 (strength operator) (omega arith) in
    ends-closed limit (Left place operator a) opens e h refl (ends limit opens _ (rw (whole-closed 0 (Left place operator a) opens e h) fits))
ends limit (Condition place c ∷ opens) e fits =
    let one_fits : whole (Otherwise place c e ∷ opens) 1 ≤ limit = fits in
    let all_fits : whole opens (depth (closed_by (Otherwise place c e) one)) ≤ limit = rw (whole-closed 0 (Otherwise place c e) opens one refl, depth-one) fits in
    let later = ends limit opens (closed_by (Otherwise place c e) one) all_fits in
    record {
      expr = later.expr;
      is =
          read-go limit (Condition place c ∷ opens) (Behind e) (sign_lexeme sign.Colon) (one_lexeme ∷ closers opens) (Otherwise place c e ∷ opens) Operand refl one_fits
          ∙ (read-one limit (Otherwise place c e ∷ opens) (closers opens) one_fits
          ∙ (read-closed limit (closers opens) (closers-begin opens) (Otherwise place c e) opens one refl
          ∙ later.is));
    }
ends limit (Otherwise place c a ∷ opens) e fits =
    ends-closed limit (Otherwise place c a) opens e refl refl (ends limit opens _ (rw (whole-closed 0 (Otherwise place c a) opens e refl) fits))

-- ---- every state

pub record Completes (limit : ℕ) (opens : List Open) (mode : Mode) : Type 0 where
  pub more : List Lexeme
  pub expr : Expr
  pub is : read limit opens mode more ≡ Ok (expr, [])

pub completes : (limit : ℕ) (opens : List Open) (mode : Mode) → least opens mode ≤ limit → Completes limit opens mode
unfolding step word_of
completes limit opens Operand fits =
    let one_fits : whole opens (depth one) ≤ limit = rw depth-one fits in
    let later = ends limit opens one one_fits in
    record { more = one_lexeme ∷ closers opens; expr = later.expr; is = read-one limit opens (closers opens) fits ∙ later.is }
completes limit opens (Behind e) fits =
    let later = ends limit opens e fits in
    record { more = closers opens; expr = later.expr; is = later.is }
completes limit opens (Opening o) fits =
    let one_fits : whole (o ∷ opens) (depth one) ≤ limit = rw depth-one fits in
    let later = ends limit (o ∷ opens) one one_fits in
    record {
      more = sign_lexeme sign.LeftParenthesis ∷ one_lexeme ∷ closers (o ∷ opens);
      expr = later.expr;
      is =
          read-go limit opens (Opening o) (sign_lexeme sign.LeftParenthesis) (one_lexeme ∷ closers (o ∷ opens)) (o ∷ opens) Operand refl fits
          ∙ (read-one limit (o ∷ opens) (closers (o ∷ opens)) fits ∙ later.is);
    }
completes limit opens (Path dot e) fits =
    let path : Expr = made dot (shape.Dot e (codes "a")) in
    let path_fits : whole opens (depth path) ≤ limit = rw (depth-dot dot e (codes "a")) fits in
    let later = ends limit opens path path_fits in
    record {
      more = name_lexeme ∷ closers opens;
      expr = later.expr;
      is = read-go limit opens (Path dot e) name_lexeme (closers opens) opens (Behind path) refl path_fits ∙ later.is;
    }
completes limit opens (CaseName cast e) fits =
    let whole_cast : Expr = made cast (shape.Cast e (codes "a")) in
    let cast_fits : whole opens (depth whole_cast) ≤ limit = rw (depth-cast cast e (codes "a")) fits in
    let later = ends limit opens whole_cast cast_fits in
    record {
      more = name_lexeme ∷ sign_lexeme sign.RightParenthesis ∷ closers opens;
      expr = later.expr;
      is =
          read-go limit opens (CaseName cast e) name_lexeme (sign_lexeme sign.RightParenthesis ∷ closers opens) opens (CaseEnd cast e (codes "a")) refl fits
          ∙ (read-go limit opens (CaseEnd cast e (codes "a")) (sign_lexeme sign.RightParenthesis) (closers opens) opens (Behind whole_cast) refl cast_fits ∙ later.is);
    }
completes limit opens (CaseQuoted cast e) fits =
    let whole_cast : Expr = made cast (shape.Cast e (codes "a")) in
    let cast_fits : whole opens (depth whole_cast) ≤ limit = rw (depth-cast cast e (codes "a")) fits in
    let later = ends limit opens whole_cast cast_fits in
    record {
      more = name_lexeme ∷ sign_lexeme sign.DoubleQuote ∷ sign_lexeme sign.RightParenthesis ∷ closers opens;
      expr = later.expr;
      is =
          read-go limit opens (CaseQuoted cast e) name_lexeme (sign_lexeme sign.DoubleQuote ∷ sign_lexeme sign.RightParenthesis ∷ closers opens) opens (CaseQuote cast e (codes "a")) refl fits
          ∙ (read-go limit opens (CaseQuote cast e (codes "a")) (sign_lexeme sign.DoubleQuote) (sign_lexeme sign.RightParenthesis ∷ closers opens) opens (CaseEnd cast e (codes "a")) refl fits
          ∙ (read-go limit opens (CaseEnd cast e (codes "a")) (sign_lexeme sign.RightParenthesis) (closers opens) opens (Behind whole_cast) refl cast_fits ∙ later.is));
    }
completes limit opens (CaseQuote cast e name) fits =
    let whole_cast : Expr = made cast (shape.Cast e name) in
    let cast_fits : whole opens (depth whole_cast) ≤ limit = rw (depth-cast cast e name) fits in
    let later = ends limit opens whole_cast cast_fits in
    record {
      more = sign_lexeme sign.DoubleQuote ∷ sign_lexeme sign.RightParenthesis ∷ closers opens;
      expr = later.expr;
      is =
          read-go limit opens (CaseQuote cast e name) (sign_lexeme sign.DoubleQuote) (sign_lexeme sign.RightParenthesis ∷ closers opens) opens (CaseEnd cast e name) refl fits
          ∙ (read-go limit opens (CaseEnd cast e name) (sign_lexeme sign.RightParenthesis) (closers opens) opens (Behind whole_cast) refl cast_fits ∙ later.is);
    }
completes limit opens (CaseEnd cast e name) fits =
    let whole_cast : Expr = made cast (shape.Cast e name) in
    let cast_fits : whole opens (depth whole_cast) ≤ limit = rw (depth-cast cast e name) fits in
    let later = ends limit opens whole_cast cast_fits in
    record {
      more = sign_lexeme sign.RightParenthesis ∷ closers opens;
      expr = later.expr;
      is = read-go limit opens (CaseEnd cast e name) (sign_lexeme sign.RightParenthesis) (closers opens) opens (Behind whole_cast) refl cast_fits ∙ later.is;
    }

-- ---- where reading stops

-- What was read before a stop can be completed.
pub begins : {limit : ℕ} {opens : List Open} {mode : Mode} {front at : List Lexeme} {why : ParseWhy}
    → Stuck limit opens mode front at why → least opens mode ≤ limit
    → (more : List Lexeme) × (expr : Expr) × (read limit opens mode (front ++ more) ≡ Ok (expr, []))
begins {limit} {opens} {mode} ended fits = let c = completes limit opens mode fits in (c.more, c.expr, c.is)
begins {limit} {opens} {mode} (stopped moves) fits = let c = completes limit opens mode fits in (c.more, c.expr, c.is)
begins {limit} {opens} {mode} (deep moves deeper) fits = let c = completes limit opens mode fits in (c.more, c.expr, c.is)
begins {limit} {opens} {mode} (on {opens'} {mode'} {x} moves fits later) fits' =
    let further = begins later fits in
    (further.0, further.1, read-go limit opens mode x _ opens' mode' moves fits ∙ further.2)

shallow-name : (b : Bool) → cond b LeftOut Unexpected ≡ TooDeep → ⊥
shallow-name true e = cc
shallow-name false e = cc

shallow : (m : Meaning) → why_of m ≡ TooDeep → ⊥
shallow (Name name) e = shallow-name (bytes_eq name static_call) e
shallow (Number n) e = cc
shallow (Sign symbol) e = cc
shallow (Taken word) e = cc

pub record Deeper (limit : ℕ) (opens : List Open) (mode : Mode) (front : List Lexeme) (x : Lexeme) : Type 0 where
  pub other : ℕ
  pub above : limit ≤ other
  pub more : List Lexeme
  pub expr : Expr
  pub is : read other opens mode (front ++ x ∷ more) ≡ Ok (expr, [])

-- Where depth stops reading, another limit lets it go on.
pub deeper : {limit : ℕ} {opens : List Open} {mode : Mode} {front rest : List Lexeme} {x : Lexeme} {why : ParseWhy}
    → Stuck limit opens mode front (x ∷ rest) why → why ≡ TooDeep → Deeper limit opens mode front x
deeper (stopped {x} moves) e = absurd (shallow (meaning x) e)
deeper {limit} {opens} {mode} (deep {opens'} {mode'} {x} moves past) e =
    let c = completes (least opens' mode') opens' mode' (omega arith) in
    record {
      other = least opens' mode';
      above = omega arith;
      more = c.more;
      expr = c.expr;
      is = read-go (least opens' mode') opens mode x c.more opens' mode' moves (omega arith) ∙ c.is;
    }
deeper {limit} {opens} {mode} (on {opens'} {mode'} {x} moves fits later) e =
    let further = deeper later e in
    let above : limit ≤ further.other = further.above in
    record {
      other = further.other;
      above = further.above;
      more = further.more;
      expr = further.expr;
      is = read-go further.other opens mode x _ opens' mode' moves (omega arith) ∙ further.is;
    }
