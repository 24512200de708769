-- Descriptions for the worked examples, in short forms of the tree, and what has to be opened for them to compute.
use Rattle.std.specs.Prelude.{ℕ, Bool, List, [], ◌∷◌, Option, Some, None, codes, false, true}
use Rattle.node_tree.specs.Bits.{number_bits}
use Rattle.node_tree.specs.declared.nodes.Node.{out-Node}
use Rattle.mspec_tree.specs.declared.words.ByteOrder.{ByteOrder}
use Rattle.mspec_tree.specs.declared.words.ByteOrder.TheVariants.{Little}
use Rattle.mspec_tree.specs.declared.words.Lit.TheVariants.{Num, Flag}
use Rattle.mspec_tree.specs.declared.words.Key.{Key}
use Rattle.mspec_tree.specs.declared.words.Key.TheVariants.{Lit as LitKey}
use Rattle.mspec_tree.specs.declared.words.Op.{Op}
use Rattle.mspec_tree.specs.declared.words.Op.TheVariants.{Add, Sub, Rem, Div, Gt, BitAnd}
use Rattle.mspec_tree.specs.declared.words.Place.{Place}
use Rattle.mspec_tree.specs.declared.words.Simple.TheVariants.{Bit, Byte, Uint, Int}
use Rattle.mspec_tree.specs.declared.exprs.Expr.{Expr, roll-Expr}
use Rattle.mspec_tree.specs.declared.exprs.Shape.{Shape, out-Shape}
use Rattle.mspec_tree.specs.declared.exprs.Shape.TheVariants as shape
use Rattle.mspec_tree.specs.declared.exprs.Ref.{Ref}
use Rattle.mspec_tree.specs.declared.exprs.Ref.TheVariants.{Plain, Named}
use Rattle.mspec_tree.specs.declared.fields.Field.{Field, roll-Field}
use Rattle.mspec_tree.specs.declared.fields.Body.{Body, out-Body}
use Rattle.mspec_tree.specs.declared.fields.Body.TheVariants.{Simple, Discriminator, Const, Implicit, Virtual, Optional, Checksum, Padding, CountArray, LengthArray, Switch}
use Rattle.mspec_tree.specs.declared.fields.Case.{Case, out-Case, roll-Case}
use Rattle.mspec_tree.specs.declared.defs.Constant.{Constant}
use Rattle.mspec_tree.specs.declared.defs.Param.{Param}
use Rattle.mspec_tree.specs.declared.defs.Def.{Def}
use Rattle.mspec_tree.specs.declared.defs.DefBody.{DefBody}
use Rattle.mspec_tree.specs.declared.defs.DefBody.TheVariants.{Plain as PlainType, Switched, Enum}
use Rattle.mspec_tree.specs.declared.defs.Description.{Description}

unfoldable pub trees : Unit {0}
unfolding
    number_bits out-Node out-Body out-Shape out-Case roll-Case denote.Hole.Carrier.out denote.Hole.Carrier.roll
    denote.Hole.Carrier.shown denote.Hole.Carrier.hidden
    Rattle.node_tree.specs.declared.nodes.Node.TheBlock.shown-the_row-Node-0
    Rattle.mspec_tree.specs.declared.exprs.Shape.TheBlock.shown-the_row-Expr-0
    Rattle.mspec_tree.specs.declared.fields.Body.TheBlock.shown-the_row-Case-0
    Rattle.mspec_tree.specs.declared.fields.Body.TheBlock.shown-the_row-Field-1
trees = tt

-- ---- short forms

abbrev pub here : Place
here = record { line = 1; column = 1 }

abbrev pub expr : Shape → Expr
expr shape = roll-Expr (record { place = here; shape = shape })

abbrev pub number : ℕ → Expr
number n = expr (shape.Lit (Num false n))

abbrev pub name : List ℕ → Expr
name n = expr (shape.Name n)

abbrev pub count : List ℕ → Expr
count n = expr (shape.Count (name n))

abbrev pub two : Op → Expr → Expr → Expr
two op a b = expr (shape.Two op a b)

abbrev pub flag : Ref
flag = Plain Bit

abbrev pub uint : ℕ → Ref
uint width = Plain (Uint width)

abbrev pub int : ℕ → Ref
int width = Plain (Int width)

abbrev pub named : List ℕ → List Expr → Ref
named name args = Named here name args

abbrev pub ordered_field : Option ByteOrder → List ℕ → Body → Field
ordered_field order name body =
    roll-Field (record { place = here; named = here; name = name; order = order; body = body })

abbrev pub field : List ℕ → Body → Field
field name body = ordered_field None name body

abbrev pub case : List Key → List ℕ → List Field → Case
case keys name fields = roll-Case (record { place = here; named = here; keys = keys; name = name; fields = fields })

abbrev pub number_key : ℕ → Key
number_key n = LitKey (Num false n)

abbrev pub flag_key : Bool → Key
flag_key value = LitKey (Flag value)

abbrev pub param : Ref → List ℕ → Param
param kind name = record { place = here; kind = kind; name = name }

abbrev pub constant : ℕ → List ℕ → Constant
constant value name = record { place = here; value = Num false value; name = name; attrs = [] }

abbrev pub typed : List ℕ → List Param → DefBody → Def
typed name params body =
    record { place = here; named = here; name = name; params = params; order = None; body = body }

abbrev pub of : List Def → Description
of defs = record { defs = defs }

-- a description of one type, by its fields
abbrev pub type_of : List Field → Description
type_of fields = of (typed (codes "T") [] (PlainType fields) ∷ [])

-- ---- descriptions, each below its text

-- [type T [simple int 8 a] [virtual int 16 q 'a / 4'] [virtual int 16 r 'a % 4']]
abbrev pub quotients : Description
quotients = type_of (
    field (codes "a") (Simple (int 8))
    ∷ field (codes "q") (Virtual (int 16) (two Div (name (codes "a")) (number 4)))
    ∷ field (codes "r") (Virtual (int 16) (two Rem (name (codes "a")) (number 4)))
    ∷ [])

-- [type T [simple uint 64 a] [virtual uint 64 v 'a + 1 - 1']], which isn't accepted
abbrev pub one_more_and_one_less : Description
one_more_and_one_less = type_of (
    field (codes "a") (Simple (uint 64))
    ∷ field (codes "v") (Virtual (uint 64) (two Sub (two Add (name (codes "a")) (number 1)) (number 1)))
    ∷ [])

-- [type T [simple uint 8 n] [optional uint 8 o 'n > 1'] [virtual uint 16 v 'o + 1']]
abbrev pub maybe_one_more : Description
maybe_one_more = type_of (
    field (codes "n") (Simple (uint 8))
    ∷ field (codes "o") (Optional (uint 8) (two Gt (name (codes "n")) (number 1)))
    ∷ field (codes "v") (Virtual (uint 16) (two Add (name (codes "o")) (number 1)))
    ∷ [])

-- [type T [simple uint 4 a] [simple uint 16 c byteOrder='LITTLE_ENDIAN'] [simple uint 4 b]]
abbrev pub little_number : Description
little_number = type_of (
    field (codes "a") (Simple (uint 4))
    ∷ ordered_field (Some Little) (codes "c") (Simple (uint 16))
    ∷ field (codes "b") (Simple (uint 4))
    ∷ [])

-- [type T [const uint 16 c 1]]
abbrev pub one_const : Description
one_const = type_of (field (codes "c") (Const (Uint 16) (Num false 1)) ∷ [])

-- A part of Modbus's requests and responses:
-- [discriminatedType ModbusPDU(bit response) [discriminator bit errorFlag] [discriminator uint 7 functionFlag]
--   [typeSwitch errorFlag, functionFlag, response
--     ['true' Error [simple ModbusErrorCode exceptionCode]]
--     ['false', '3', 'false' ReadHolding [simple uint 16 address] [simple uint 16 quantity]]
--     ['false', '3', 'true' HoldingRead [implicit uint 8 byteCount 'COUNT(value)'] [array byte value count 'byteCount']]]]
-- [enum uint 8 ModbusErrorCode ['1' ILLEGAL_FUNCTION] ['2' ILLEGAL_DATA_ADDRESS]]
abbrev pub modbus : Description
modbus = of (
    typed (codes "ModbusPDU") (param flag (codes "response") ∷ []) (Switched (
    field (codes "errorFlag") (Discriminator flag)
    ∷ field (codes "functionFlag") (Discriminator (uint 7))
    ∷ field [] (Switch (codes "errorFlag" ∷ codes "functionFlag" ∷ codes "response" ∷ []) (
    case (flag_key true ∷ []) (codes "Error") (
    field (codes "exceptionCode") (Simple (named (codes "ModbusErrorCode") [])) ∷ [])
    ∷ case (flag_key false ∷ number_key 3 ∷ flag_key false ∷ []) (codes "ReadHolding") (
    field (codes "address") (Simple (uint 16)) ∷ field (codes "quantity") (Simple (uint 16)) ∷ [])
    ∷ case (flag_key false ∷ number_key 3 ∷ flag_key true ∷ []) (codes "HoldingRead") (
    field (codes "byteCount") (Implicit (uint 8) (count (codes "value")))
    ∷ field (codes "value") (CountArray (Plain Byte) (name (codes "byteCount"))) ∷ [])
    ∷ []))
    ∷ []))
    ∷ typed (codes "ModbusErrorCode") [] (Enum (Uint 8) (
    constant 1 (codes "ILLEGAL_FUNCTION") ∷ constant 2 (codes "ILLEGAL_DATA_ADDRESS") ∷ []))
    ∷ [])

-- [type T [simple int 8 n] [array uint 16 v count 'n']]
abbrev pub numbers_by_count : Description
numbers_by_count = type_of (
    field (codes "n") (Simple (int 8)) ∷ field (codes "v") (CountArray (uint 16) (name (codes "n"))) ∷ [])

-- [type T [simple uint 8 n] [array uint 16 v length 'n']]
abbrev pub numbers_by_length : Description
numbers_by_length = type_of (
    field (codes "n") (Simple (uint 8)) ∷ field (codes "v") (LengthArray (uint 16) (name (codes "n"))) ∷ [])

-- [type T [simple uint 8 n] [array U('n', 'curPos') v count '2']]
-- [type U(uint 8 a, uint 8 p) [simple uint 8 b] [virtual uint 16 s 'a + b'] [virtual uint 8 q 'p']]
abbrev pub items_with_arguments : Description
items_with_arguments = of (
    typed (codes "T") [] (PlainType (
    field (codes "n") (Simple (uint 8))
    ∷ field (codes "v") (CountArray (named (codes "U") (name (codes "n") ∷ expr shape.CurPos ∷ [])) (number 2))
    ∷ []))
    ∷ typed (codes "U") (param (uint 8) (codes "a") ∷ param (uint 8) (codes "p") ∷ []) (PlainType (
    field (codes "b") (Simple (uint 8))
    ∷ field (codes "s") (Virtual (uint 16) (two Add (name (codes "a")) (name (codes "b"))))
    ∷ field (codes "q") (Virtual (uint 8) (name (codes "p")))
    ∷ []))
    ∷ [])

-- [type T [simple uint 16 n] [simple U('n') u]] [type U(uint 8 a) [simple uint 8 b]]
abbrev pub one_argument : Description
one_argument = of (
    typed (codes "T") [] (PlainType (
    field (codes "n") (Simple (uint 16)) ∷ field (codes "u") (Simple (named (codes "U") (name (codes "n") ∷ []))) ∷ []))
    ∷ typed (codes "U") (param (uint 8) (codes "a") ∷ []) (PlainType (field (codes "b") (Simple (uint 8)) ∷ []))
    ∷ [])

-- [type T [simple uint 8 a] [simple uint 8 b] [checksum uint 8 s 'SUM_BYTES & 255']]
abbrev pub summed : Description
summed = type_of (
    field (codes "a") (Simple (uint 8))
    ∷ field (codes "b") (Simple (uint 8))
    ∷ field (codes "s") (Checksum (Uint 8) (two BitAnd (expr shape.SumBytes) (number 255)))
    ∷ [])

-- [type T [simple uint 4 a] [simple B b]]
-- [type B [simple uint 12 x] [virtual uint 8 c 'curPos'] [checksum uint 8 s 'SUM_BYTES & 255']]
abbrev pub from_inside_a_byte : Description
from_inside_a_byte = of (
    typed (codes "T") [] (PlainType (
    field (codes "a") (Simple (uint 4)) ∷ field (codes "b") (Simple (named (codes "B") [])) ∷ []))
    ∷ typed (codes "B") [] (PlainType (
    field (codes "x") (Simple (uint 12))
    ∷ field (codes "c") (Virtual (uint 8) (expr shape.CurPos))
    ∷ field (codes "s") (Checksum (Uint 8) (two BitAnd (expr shape.SumBytes) (number 255)))
    ∷ []))
    ∷ [])

-- [type T [implicit uint 8 n 'COUNT(v)'] [array B v count 'n']]
-- [type B [implicit uint 8 m 'COUNT(w)'] [array byte w count 'm'] [padding uint 8 p '0' 'lastItem ? 0 : COUNT(w) % 2']]
abbrev pub padded_items : Description
padded_items = of (
    typed (codes "T") [] (PlainType (
    field (codes "n") (Implicit (uint 8) (count (codes "v")))
    ∷ field (codes "v") (CountArray (named (codes "B") []) (name (codes "n")))
    ∷ []))
    ∷ typed (codes "B") [] (PlainType (
    field (codes "m") (Implicit (uint 8) (count (codes "w")))
    ∷ field (codes "w") (CountArray (Plain Byte) (name (codes "m")))
    ∷ field (codes "p") (Padding (Uint 8) (Num false 0)
    (expr (shape.If (expr shape.LastItem) (number 0) (two Rem (count (codes "w")) (number 2)))))
    ∷ []))
    ∷ [])

-- [type T [const uint 8 c 7] [implicit uint 8 n 'lengthInBytes'] [padding uint 8 p '0' '3']]
abbrev pub own_length : Description
own_length = type_of (
    field (codes "c") (Const (Uint 8) (Num false 7))
    ∷ field (codes "n") (Implicit (uint 8) (expr shape.Length))
    ∷ field (codes "p") (Padding (Uint 8) (Num false 0) (number 3))
    ∷ [])

-- [type T [simple T t]]
abbrev pub endless : Description
endless = type_of (field (codes "t") (Simple (named (codes "T") [])) ∷ [])

-- [discriminatedType S [discriminator uint 8 k] [typeSwitch k ['1' A [simple uint 8 x]] ['2' B]]]
-- [type T [simple S s] [virtual uint 8 v 'CAST(s, A).x']]
abbrev pub taken_as : Description
taken_as = of (
    typed (codes "T") [] (PlainType (
    field (codes "s") (Simple (named (codes "S") []))
    ∷ field (codes "v") (Virtual (uint 8) (expr (shape.Dot (expr (shape.Cast (name (codes "s")) (codes "A"))) (codes "x"))))
    ∷ []))
    ∷ typed (codes "S") [] (Switched (
    field (codes "k") (Discriminator (uint 8))
    ∷ field [] (Switch (codes "k" ∷ []) (
    case (number_key 1 ∷ []) (codes "A") (field (codes "x") (Simple (uint 8)) ∷ [])
    ∷ case (number_key 2 ∷ []) (codes "B") [] ∷ []))
    ∷ []))
    ∷ [])
