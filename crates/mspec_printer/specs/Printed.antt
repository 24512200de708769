-- The printed form of a description, as words and the blanks between them.
use Rattle.std.specs.Prelude.{ℕ, zero, suc, Bool, true, false, List, [], ◌∷◌, ◌++◌, map, codes, decimal, Option, Some, None, OnOk, Result, ◌≡◌, if◌then◌else◌}
use Rattle.std.specs.List.{flat_map}
use Rattle.mspec_tree.specs.declared.words.ByteOrder.{ByteOrder}
use Rattle.mspec_tree.specs.declared.words.ByteOrder.TheVariants.{Big, Little}
use Rattle.mspec_tree.specs.declared.words.Key.{Key}
use Rattle.mspec_tree.specs.declared.words.Key.TheVariants as key
use Rattle.mspec_tree.specs.declared.words.Lit.{Lit}
use Rattle.mspec_tree.specs.declared.words.Lit.TheVariants.{Num, Flag}
use Rattle.mspec_tree.specs.declared.words.Op.{Op}
use Rattle.mspec_tree.specs.declared.words.Op.TheVariants as op
use Rattle.mspec_tree.specs.declared.words.Simple.{Simple}
use Rattle.mspec_tree.specs.declared.words.Simple.TheVariants.{Bit, Byte, Uint, Int, Float}
use Rattle.mspec_tree.specs.declared.exprs.Expr.{Expr, fold-Expr}
use Rattle.mspec_tree.specs.declared.exprs.Ref.{Ref}
use Rattle.mspec_tree.specs.declared.exprs.Ref.TheVariants.{Plain, Named}
use Rattle.mspec_tree.specs.declared.exprs.Shape.TheOpen.{Shape-F}
use Rattle.mspec_tree.specs.declared.exprs.Shape.TheOpen as shape
use Rattle.mspec_tree.specs.declared.fields.Body.{Body, out-Body}
use Rattle.mspec_tree.specs.declared.fields.Body.TheOpen.{Body-F}
use Rattle.mspec_tree.specs.declared.fields.Body.TheOpen as body
use Rattle.mspec_tree.specs.declared.fields.Case.{Case, out-Case}
use Rattle.mspec_tree.specs.declared.fields.Field.{Field, out-Field}
use Rattle.mspec_tree.specs.declared.defs.Constant.{Constant}
use Rattle.mspec_tree.specs.declared.defs.Def.{Def}
use Rattle.mspec_tree.specs.declared.defs.DefBody.{DefBody}
use Rattle.mspec_tree.specs.declared.defs.DefBody.TheVariants as def
use Rattle.mspec_tree.specs.declared.defs.Description.{Description}
use Rattle.mspec_tree.specs.declared.defs.Param.{Param}
use Rattle.mspec_lexer.specs.declared.tokens.Symbol.{Symbol}
use Rattle.mspec_lexer.specs.declared.tokens.Symbol.TheVariants as sign
use Rattle.mspec_lexer.specs.declared.tokens.TokenKind.TheVariants.{Name, Number, Symbol as Sign}
use Rattle.mspec_lexer.specs.Spellings.{spelling}
use Rattle.mspec_lexer.specs.Tokens.{Gap, Piece, Word, text_of}

-- ---- words and blanks

abbrev pub word : List ℕ → List Piece
word bytes = Word Name bytes ∷ []

-- a number, in decimal digits
abbrev pub number : ℕ → List Piece
number n = Word (Number n) (decimal n) ∷ []

abbrev pub mark : Symbol → List Piece
mark symbol = Word (Sign symbol) (spelling symbol) ∷ []

abbrev pub blank : List Piece
blank = Gap (32 ∷ []) ∷ []

abbrev pub line_end : List Piece
line_end = Gap (10 ∷ []) ∷ []

-- ---- parts

-- each part behind what parts them
abbrev pub each_behind : (between : List Piece) → List (List Piece) → List Piece
each_behind between [] = []
each_behind between (part ∷ parts) = between ++ (part ++ each_behind between parts)

abbrev pub parted : (between : List Piece) → List (List Piece) → List Piece
parted between [] = []
parted between (part ∷ parts) = part ++ each_behind between parts

-- apart by one blank
abbrev pub spaced : List (List Piece) → List Piece
spaced parts = parted blank parts

-- apart by a comma and a blank
abbrev pub listed : List (List Piece) → List Piece
listed parts = parted (mark sign.Comma ++ blank) parts

abbrev pub quoted : List Piece → List Piece
quoted part = mark sign.Quote ++ (part ++ mark sign.Quote)

abbrev pub in_parentheses : List Piece → List Piece
in_parentheses part = mark sign.LeftParenthesis ++ (part ++ mark sign.RightParenthesis)

-- nothing of an empty list
abbrev pub unless_empty : {A : Type 0} → (List A → List Piece) → List A → List Piece
unless_empty printed [] = []
unless_empty printed (a ∷ more) = printed (a ∷ more)

-- ---- lines

-- two blanks for each step of depth
abbrev pub indent : (depth : ℕ) → List Piece
indent zero = []
indent (suc depth) = blank ++ (blank ++ indent depth)

abbrev pub line : (depth : ℕ) → List Piece → List Piece
line depth part = indent depth ++ (part ++ line_end)

-- a bracket with its head on one line, what stands in it, and the closing bracket on a line of its own
abbrev pub block : (depth : ℕ) → (head inner : List Piece) → List Piece
block depth head inner =
    line depth (mark sign.LeftBracket ++ head) ++ (inner ++ line depth (mark sign.RightBracket))

-- ---- literals and types

abbrev pub minus_sign : Bool → List Piece
minus_sign true = mark sign.Minus
minus_sign false = []

abbrev pub lit : Lit → List Piece
lit (Num negative size) = minus_sign negative ++ number size
lit (Flag true) = word (codes "true")
lit (Flag false) = word (codes "false")

abbrev pub key_in_quotes : Key → List Piece
key_in_quotes key.Any = mark sign.Star
key_in_quotes (key.Lit value) = lit value
key_in_quotes (key.Constant name) = word name

abbrev pub simple : Simple → List Piece
simple Bit = word (codes "bit")
simple Byte = word (codes "byte")
simple (Uint width) = spaced (word (codes "uint") ∷ number width ∷ [])
simple (Int width) = spaced (word (codes "int") ∷ number width ∷ [])
simple (Float width) = spaced (word (codes "float") ∷ number width ∷ [])

-- ---- expressions

abbrev pub operator : Op → Symbol
operator op.Or = sign.DoubleBar
operator op.And = sign.DoubleAmpersand
operator op.BitOr = sign.Bar
operator op.BitAnd = sign.Ampersand
operator op.Eq = sign.DoubleEqual
operator op.Ne = sign.NotEqual
operator op.Lt = sign.Less
operator op.Le = sign.LessEqual
operator op.Gt = sign.Greater
operator op.Ge = sign.GreaterEqual
operator op.Shl = sign.DoubleLess
operator op.Shr = sign.DoubleGreater
operator op.Add = sign.Plus
operator op.Sub = sign.Minus
operator op.Mul = sign.Star
operator op.Div = sign.Slash
operator op.Rem = sign.Percent

-- a printed expression, and whether it is primary or dotted
pub record Form : Type 0 where
  pub tight : Bool
  pub pieces : List Piece

-- primary or dotted
abbrev pub tight : List Piece → Form
tight pieces = record { tight = true; pieces = pieces }

abbrev pub loose : List Piece → Form
loose pieces = record { tight = false; pieces = pieces }

-- an operand of an operator: in parentheses unless it is primary or dotted
abbrev pub operand : Form → List Piece
operand form = if form.tight then form.pieces else in_parentheses form.pieces

-- one layer of an expression, with its operands printed
abbrev pub layer : Shape-F Form Form → Form
layer (shape.Lit value) = tight (lit value)
layer shape.Null = tight (word (codes "null"))
layer (shape.Name name) = tight (word name)
layer shape.CurPos = tight (word (codes "curPos"))
layer shape.Length = tight (word (codes "lengthInBytes"))
layer shape.LastItem = tight (word (codes "lastItem"))
layer shape.SumBytes = tight (word (codes "SUM_BYTES"))
layer shape.XorBytes = tight (word (codes "XOR_BYTES"))
layer (shape.Dot of name) = tight (operand of ++ (mark sign.Dot ++ word name))
layer (shape.LengthOf of) = tight (operand of ++ (mark sign.Dot ++ word (codes "lengthInBytes")))
layer (shape.Count of) = tight (word (codes "COUNT") ++ in_parentheses of.pieces)
layer (shape.Cast of name) = tight (word (codes "CAST") ++ in_parentheses (listed (of.pieces ∷ word name ∷ [])))
layer (shape.Not of) = loose (mark sign.Exclamation ++ operand of)
layer (shape.Neg of) = loose (mark sign.Minus ++ operand of)
layer (shape.Two with a b) = loose (spaced (operand a ∷ mark (operator with) ∷ operand b ∷ []))
layer (shape.If condition a b) =
    loose (spaced (operand condition ∷ mark sign.Question ∷ operand a ∷ mark sign.Colon ∷ operand b ∷ []))

abbrev pub form : Expr → Form
form e = fold-Expr Form Form layer (λ l. l.shape) e

abbrev pub expr : Expr → List Piece
expr e = (form e).pieces

-- ---- fields

abbrev pub ref : Ref → List Piece
ref (Plain written) = simple written
ref (Named place name args) = word name ++ unless_empty (λ es. in_parentheses (listed (map (λ e. quoted (expr e)) es))) args

abbrev pub order_word : ByteOrder → List ℕ
order_word Big = codes "BIG_ENDIAN"
order_word Little = codes "LITTLE_ENDIAN"

-- a byte order, with the blank in front of it
abbrev pub order : Option ByteOrder → List Piece
order None = []
order (Some which) = blank ++ (word (codes "byteOrder") ++ (mark sign.Equal ++ quoted (word (order_word which))))

abbrev pub names : List (List ℕ) → List Piece
names ns = listed (map word ns)

-- the words of a field with this name, up to its byte order
abbrev pub body_words : (name : List ℕ) → Body-F Body Case Field → List (List Piece)
body_words name (body.Simple of) = word (codes "simple") ∷ ref of ∷ word name ∷ []
body_words name (body.Discriminator of) = word (codes "discriminator") ∷ ref of ∷ word name ∷ []
body_words name (body.Const of value) = word (codes "const") ∷ simple of ∷ word name ∷ lit value ∷ []
body_words name (body.Reserved of value) = word (codes "reserved") ∷ simple of ∷ quoted (lit value) ∷ []
body_words name (body.Implicit of e) = word (codes "implicit") ∷ ref of ∷ word name ∷ quoted (expr e) ∷ []
body_words name (body.Virtual of e) = word (codes "virtual") ∷ ref of ∷ word name ∷ quoted (expr e) ∷ []
body_words name (body.Optional of e) = word (codes "optional") ∷ ref of ∷ word name ∷ quoted (expr e) ∷ []
body_words name (body.Checksum of e) = word (codes "checksum") ∷ simple of ∷ word name ∷ quoted (expr e) ∷ []
body_words name (body.Padding of value e) =
    word (codes "padding") ∷ simple of ∷ word name ∷ quoted (lit value) ∷ quoted (expr e) ∷ []
body_words name (body.CountArray of e) =
    word (codes "array") ∷ ref of ∷ word name ∷ word (codes "count") ∷ quoted (expr e) ∷ []
body_words name (body.LengthArray of e) =
    word (codes "array") ∷ ref of ∷ word name ∷ word (codes "length") ∷ quoted (expr e) ∷ []
body_words name (body.Switch ns cases) = word (codes "typeSwitch") ∷ names ns ∷ []

-- what stands in the brackets of a field, without a switch's cases
abbrev pub field_head : Field → List Piece
field_head f = spaced (body_words (out-Field f).name (out-Body (out-Field f).body)) ++ order (out-Field f).order

abbrev pub in_brackets : List Piece → List Piece
in_brackets part = mark sign.LeftBracket ++ (part ++ mark sign.RightBracket)

-- a field on its line. A switch in a case, as no text of the language has one, stands here without its cases.
abbrev pub field : (depth : ℕ) → Field → List Piece
field depth f = line depth (in_brackets (field_head f))

-- the keys of a case, with the blank behind them
abbrev pub keys : List Key → List Piece
keys ks = unless_empty (λ some. listed (map (λ k. quoted (key_in_quotes k)) some) ++ blank) ks

abbrev pub case : (depth : ℕ) → Case → List Piece
case depth c =
    block depth (keys (out-Case c).keys ++ word (out-Case c).name)
    (flat_map (λ f. field (suc depth) f) (out-Case c).fields)

-- the cases of a switch; no other field has any
abbrev pub cases_of : Body-F Body Case Field → Option (List Case)
cases_of (body.Switch ns cases) = Some cases
cases_of other = None

-- a field of a definition: a switch with its cases, or a field on its line
abbrev pub member_by : Option (List Case) → Field → List Piece
member_by (Some cases) f = block 1 (field_head f) (flat_map (λ c. case 2 c) cases)
member_by None f = field 1 f

abbrev pub member : Field → List Piece
member f = member_by (cases_of (out-Body (out-Field f).body)) f

-- ---- definitions

abbrev pub param : Param → List Piece
param p = spaced (ref p.kind ∷ word p.name ∷ [])

-- a definition's name and its parameters
abbrev pub named : Def → List Piece
named d = word d.name ++ unless_empty (λ ps. in_parentheses (listed (map param ps))) d.params

-- the attributes of a constant, with the blank in front of them
abbrev pub attributes : List Lit → List Piece
attributes values = unless_empty (λ some. blank ++ in_brackets (listed (map (λ value. quoted (lit value)) some))) values

abbrev pub constant : Constant → List Piece
constant c = line 1 (in_brackets (spaced (quoted (lit c.value) ∷ word c.name ∷ []) ++ attributes c.attrs))

-- what stands in front of a definition's name
abbrev pub kind_words : DefBody → List (List Piece)
kind_words (def.Plain fields) = word (codes "type") ∷ []
kind_words (def.Switched fields) = word (codes "discriminatedType") ∷ []
kind_words (def.DataIo switch) = word (codes "dataIo") ∷ []
kind_words (def.Enum base constants) = word (codes "enum") ∷ simple base ∷ []

abbrev pub inner : DefBody → List Piece
inner (def.Plain fields) = flat_map member fields
inner (def.Switched fields) = flat_map member fields
inner (def.DataIo switch) = member switch
inner (def.Enum base constants) = flat_map constant constants

abbrev pub definition : Def → List Piece
definition d = block 0 (spaced (kind_words d.body ++ (named d ∷ [])) ++ order d.order) (inner d.body)

-- a description
abbrev pub printed : Description → List Piece
printed d = flat_map definition d.defs

-- the pieces were added at the end of a text
abbrev pub Writes : {A E : Type 0} → Result A E → (old new : List ℕ) → List Piece → Type 0
Writes result old new pieces = OnOk result (new ≡ old ++ text_of pieces)
