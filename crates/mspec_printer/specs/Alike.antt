-- Descriptions that are the same but for the places of their parts.
use Rattle.std.specs.Prelude.{ℕ, ◌≡◌, List, map}
use Rattle.mspec_tree.specs.declared.words.Place.{Place}
use Rattle.mspec_tree.specs.declared.exprs.Expr.{Expr, fold-Expr, roll-Expr}
use Rattle.mspec_tree.specs.declared.exprs.Shape.{Shape, roll-Shape}
use Rattle.mspec_tree.specs.declared.exprs.Shape.TheOpen.{Expr-F}
use Rattle.mspec_tree.specs.declared.exprs.Ref.{Ref}
use Rattle.mspec_tree.specs.declared.exprs.Ref.TheVariants.{Plain, Named}
use Rattle.mspec_tree.specs.declared.fields.Body.{Body, roll-Body}
use Rattle.mspec_tree.specs.declared.fields.Body.TheOpen.{Body-F, Case-F, Field-F}
use Rattle.mspec_tree.specs.declared.fields.Body.TheOpen as body
use Rattle.mspec_tree.specs.declared.fields.Case.{Case, roll-Case}
use Rattle.mspec_tree.specs.declared.fields.Field.{Field, fold-Field, roll-Field}
use Rattle.mspec_tree.specs.declared.defs.Constant.{Constant}
use Rattle.mspec_tree.specs.declared.defs.Def.{Def}
use Rattle.mspec_tree.specs.declared.defs.DefBody.{DefBody}
use Rattle.mspec_tree.specs.declared.defs.DefBody.TheVariants as def
use Rattle.mspec_tree.specs.declared.defs.Description.{Description}
use Rattle.mspec_tree.specs.declared.defs.Param.{Param}
use Rattle.mspec_tree.specs.Depth.{depth_limit}
use Rattle.mspec_lexer.specs.declared.tokens.Token.{Token}
use Rattle.mspec_lexer.specs.Lexemes.{lexemes}
use Rattle.mspec_lexer.specs.Tokens.{Tokens}
use Rattle.mspec_grammar.specs.Trees.{Tree}

-- a text's first place, which stands for each place
abbrev pub start : Place
start = record { line = 1; column = 1 }

abbrev pub at_start : Expr-F Shape Expr → Expr
at_start e = roll-Expr (record { place = start; shape = e.shape })

abbrev pub unplaced : Expr → Expr
unplaced e = fold-Expr Shape Expr roll-Shape at_start e

abbrev pub unplaced_ref : Ref → Ref
unplaced_ref (Plain written) = Plain written
unplaced_ref (Named place name args) = Named start name (map unplaced args)

-- one layer of a field, whose cases stand without places
abbrev pub unplaced_layer : Body-F Body Case Field → Body
unplaced_layer (body.Simple of) = roll-Body (body.Simple (unplaced_ref of))
unplaced_layer (body.Discriminator of) = roll-Body (body.Discriminator (unplaced_ref of))
unplaced_layer (body.Const of value) = roll-Body (body.Const of value)
unplaced_layer (body.Reserved of value) = roll-Body (body.Reserved of value)
unplaced_layer (body.Implicit of e) = roll-Body (body.Implicit (unplaced_ref of) (unplaced e))
unplaced_layer (body.Virtual of e) = roll-Body (body.Virtual (unplaced_ref of) (unplaced e))
unplaced_layer (body.Optional of e) = roll-Body (body.Optional (unplaced_ref of) (unplaced e))
unplaced_layer (body.Checksum of e) = roll-Body (body.Checksum of (unplaced e))
unplaced_layer (body.Padding of value e) = roll-Body (body.Padding of value (unplaced e))
unplaced_layer (body.CountArray of e) = roll-Body (body.CountArray (unplaced_ref of) (unplaced e))
unplaced_layer (body.LengthArray of e) = roll-Body (body.LengthArray (unplaced_ref of) (unplaced e))
unplaced_layer (body.Switch names cases) = roll-Body (body.Switch names cases)

abbrev pub case_at_start : Case-F Body Case Field → Case
case_at_start c =
    roll-Case (record { place = start; named = start; keys = c.keys; name = c.name; fields = c.fields })

abbrev pub field_at_start : Field-F Body Case Field → Field
field_at_start f =
    roll-Field (record { place = start; named = start; name = f.name; order = f.order; body = f.body })

abbrev pub unplaced_field : Field → Field
unplaced_field f = fold-Field Body Case Field unplaced_layer case_at_start field_at_start f

abbrev pub unplaced_param : Param → Param
unplaced_param p = record { place = start; kind = unplaced_ref p.kind; name = p.name }

abbrev pub unplaced_constant : Constant → Constant
unplaced_constant c = record { place = start; value = c.value; name = c.name; attrs = c.attrs }

abbrev pub unplaced_def_body : DefBody → DefBody
unplaced_def_body (def.Plain fields) = def.Plain (map unplaced_field fields)
unplaced_def_body (def.Switched fields) = def.Switched (map unplaced_field fields)
unplaced_def_body (def.DataIo switch) = def.DataIo (unplaced_field switch)
unplaced_def_body (def.Enum base constants) = def.Enum base (map unplaced_constant constants)

abbrev pub unplaced_def : Def → Def
unplaced_def d = record {
  place = start;
  named = start;
  name = d.name;
  params = map unplaced_param d.params;
  order = d.order;
  body = unplaced_def_body d.body;
}

-- the same, if the places are let go
abbrev pub AreAlike : Description → Description → Type 0
AreAlike d e = map unplaced_def d.defs ≡ map unplaced_def e.defs

-- the text is read as a description that is the same but for places
abbrev pub ParsesAlike : Description → (text : List ℕ) → Type 0
ParsesAlike d text =
    (tokens : List Token) × (e : Description) × Tokens text tokens × Tree depth_limit (lexemes text tokens) e × AreAlike d e
