-- The trees that the grammar can give, places aside.
use Rattle.std.specs.Prelude.{ℕ, ◌^◌, ◌==◌, ◌||◌, ◌&&◌, Bool, true, false, not, is_none, List, [], ◌∷◌, codes, nat_lt, nat_le, IsTrue}
use Rattle.std.specs.Char.{is_ascii_digit, is_ascii_alphabetic}
use Rattle.std.specs.List.{list_any, list_all}
use Rattle.std.specs.Str.{bytes_eq}
use Rattle.mspec_tree.specs.declared.words.Lit.{Lit}
use Rattle.mspec_tree.specs.declared.words.Lit.TheVariants.{Num, Flag}
use Rattle.mspec_tree.specs.declared.words.Key.{Key}
use Rattle.mspec_tree.specs.declared.words.Key.TheVariants as key
use Rattle.mspec_tree.specs.declared.words.Simple.{Simple}
use Rattle.mspec_tree.specs.declared.words.Simple.TheVariants as simple
use Rattle.mspec_tree.specs.declared.exprs.Expr.{Expr, fold-Expr}
use Rattle.mspec_tree.specs.declared.exprs.Shape.TheOpen.{Shape-F}
use Rattle.mspec_tree.specs.declared.exprs.Shape.TheOpen as shape
use Rattle.mspec_tree.specs.declared.exprs.Ref.{Ref}
use Rattle.mspec_tree.specs.declared.exprs.Ref.TheVariants.{Plain, Named}
use Rattle.mspec_tree.specs.declared.fields.Field.{Field, out-Field}
use Rattle.mspec_tree.specs.declared.fields.Body.{Body, out-Body}
use Rattle.mspec_tree.specs.declared.fields.Body.TheOpen.{Body-F}
use Rattle.mspec_tree.specs.declared.fields.Body.TheOpen as body
use Rattle.mspec_tree.specs.declared.fields.Case.{Case, out-Case}
use Rattle.mspec_tree.specs.declared.defs.Param.{Param}
use Rattle.mspec_tree.specs.declared.defs.Constant.{Constant}
use Rattle.mspec_tree.specs.declared.defs.Def.{Def}
use Rattle.mspec_tree.specs.declared.defs.DefBody.{DefBody}
use Rattle.mspec_tree.specs.declared.defs.DefBody.TheVariants as def
use Rattle.mspec_tree.specs.declared.defs.Description.{Description}
use Rattle.mspec_tree.specs.Depth.{depth, depth_limit}

-- ---- names

-- a letter or `_`, then letters, digits and `_`
abbrev pub is_spelt : List ℕ → Bool
is_spelt [] = false
is_spelt (b ∷ bytes) =
    (is_ascii_alphabetic b || b == 95) && list_all (λ c. is_ascii_alphabetic c || c == 95 || is_ascii_digit c) bytes

abbrev pub is_one_of : List (List ℕ) → List ℕ → Bool
is_one_of words bytes = list_any (λ word. bytes_eq word bytes) words

-- the words that no name may be
abbrev pub taken_words : List (List ℕ)
taken_words =
    codes "bit" ∷ codes "byte" ∷ codes "uint" ∷ codes "int" ∷ codes "float" ∷ codes "true" ∷ codes "false" ∷ codes "null"
    ∷ codes "COUNT" ∷ codes "CAST" ∷ codes "curPos" ∷ codes "lengthInBytes" ∷ codes "lastItem" ∷ codes "SUM_BYTES" ∷ codes "XOR_BYTES" ∷ []

-- the words that no named type may be
abbrev pub left_out_types : List (List ℕ)
left_out_types = codes "string" ∷ codes "vstring" ∷ codes "time" ∷ codes "date" ∷ codes "dateTime" ∷ []

abbrev pub is_name : List ℕ → Bool
is_name bytes = is_spelt bytes && not (is_one_of taken_words bytes)

abbrev pub is_type_name : List ℕ → Bool
is_type_name bytes = is_name bytes && not (is_one_of left_out_types bytes)

-- a name in an expression
abbrev pub is_free_name : List ℕ → Bool
is_free_name bytes = is_name bytes && not (bytes_eq bytes (codes "STATIC_CALL"))

-- ---- literals and types

abbrev pub is_lit : Lit → Bool
is_lit (Num negative size) = nat_lt size (2 ^ 128)
is_lit (Flag value) = true

abbrev pub is_key : Key → Bool
is_key key.Any = true
is_key (key.Lit lit) = is_lit lit
is_key (key.Constant name) = is_name name

abbrev pub is_simple : Simple → Bool
is_simple simple.Bit = true
is_simple simple.Byte = true
is_simple (simple.Uint width) = nat_lt width 256
is_simple (simple.Int width) = nat_lt width 256
is_simple (simple.Float width) = nat_lt width 256

-- ---- expressions

-- one layer of an expression, whose operands passed or not; a number has no sign of its own
abbrev pub is_layer : Shape-F Bool Bool → Bool
is_layer (shape.Lit (Num negative size)) = not negative && nat_lt size (2 ^ 128)
is_layer (shape.Lit (Flag value)) = true
is_layer shape.Null = true
is_layer (shape.Name name) = is_free_name name
is_layer shape.CurPos = true
is_layer shape.Length = true
is_layer shape.LastItem = true
is_layer shape.SumBytes = true
is_layer shape.XorBytes = true
is_layer (shape.Dot of name) = of && is_free_name name
is_layer (shape.LengthOf of) = of
is_layer (shape.Count of) = of
is_layer (shape.Cast of name) = of && is_free_name name
is_layer (shape.Not of) = of
is_layer (shape.Neg of) = of
is_layer (shape.Two operator a b) = a && b
is_layer (shape.If condition a b) = condition && (a && b)

abbrev pub is_expr : Expr → Bool
is_expr e = fold-Expr Bool Bool is_layer (λ layer. layer.shape) e && nat_le (depth e) depth_limit

-- ---- fields

-- a type without arguments
abbrev pub is_kind : Ref → Bool
is_kind (Plain written) = is_simple written
is_kind (Named place name []) = is_type_name name
is_kind (Named place name (arg ∷ args)) = false

abbrev pub is_ref : Ref → Bool
is_ref (Plain written) = is_simple written
is_ref (Named place name args) = is_type_name name && list_all is_expr args

abbrev pub is_empty : List ℕ → Bool
is_empty [] = true
is_empty (b ∷ bytes) = false

-- what a field that is no switch may have, with its name
abbrev pub is_body : List ℕ → Body-F Body Case Field → Bool
is_body name (body.Simple ref) = is_name name && is_ref ref
is_body name (body.Discriminator kind) = is_name name && is_kind kind
is_body name (body.Const written lit) = is_name name && (is_simple written && is_lit lit)
is_body name (body.Reserved written lit) = is_empty name && (is_simple written && is_lit lit)
is_body name (body.Implicit kind e) = is_name name && (is_kind kind && is_expr e)
is_body name (body.Virtual kind e) = is_name name && (is_kind kind && is_expr e)
is_body name (body.Optional ref e) = is_name name && (is_ref ref && is_expr e)
is_body name (body.Checksum written e) = is_name name && (is_simple written && is_expr e)
is_body name (body.Padding written lit e) = is_name name && (is_simple written && (is_lit lit && is_expr e))
is_body name (body.CountArray ref e) = is_name name && (is_ref ref && is_expr e)
is_body name (body.LengthArray ref e) = is_name name && (is_ref ref && is_expr e)
is_body name (body.Switch names cases) = false

abbrev pub is_field : Field → Bool
is_field f = is_body (out-Field f).name (out-Body (out-Field f).body)

abbrev pub is_case : Case → Bool
is_case c = list_all is_key (out-Case c).keys && (is_name (out-Case c).name && list_all is_field (out-Case c).fields)

-- a switch names one thing at least
abbrev pub are_names : List (List ℕ) → Bool
are_names [] = false
are_names (name ∷ names) = list_all is_name (name ∷ names)

abbrev pub is_switch_body : Body-F Body Case Field → Bool
is_switch_body (body.Switch names cases) = are_names names && list_all is_case cases
is_switch_body other = false

-- a switch has no name and no order of bytes
abbrev pub is_switch : Field → Bool
is_switch f = is_empty (out-Field f).name && (is_none (out-Field f).order && is_switch_body (out-Body (out-Field f).body))

-- ---- definitions

abbrev pub is_param : Param → Bool
is_param p = is_kind p.kind && is_name p.name

abbrev pub is_constant : Constant → Bool
is_constant c = is_lit c.value && (is_name c.name && list_all is_lit c.attrs)

abbrev pub is_def_body : DefBody → Bool
is_def_body (def.Plain fields) = list_all is_field fields
is_def_body (def.Switched fields) = list_all (λ f. is_field f || is_switch f) fields
is_def_body (def.DataIo switch) = is_switch switch
is_def_body (def.Enum base constants) = is_simple base && list_all is_constant constants

-- an enum has no order of bytes
abbrev pub has_order : DefBody → Bool
has_order (def.Enum base constants) = false
has_order other = true

abbrev pub is_def : Def → Bool
is_def d = is_name d.name && (list_all is_param d.params && ((has_order d.body || is_none d.order) && is_def_body d.body))

-- the grammar can give a tree of this form
abbrev pub IsWritten : Description → Type 0
IsWritten d = IsTrue (list_all is_def d.defs)
