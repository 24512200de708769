-- Fields, switches, definitions, and the whole description.
use Rattle.std.specs.Prelude.{ℕ, ◌≡◌, List, [], ◌∷◌, codes, Option, None}
use Rattle.mspec_tree.specs.declared.words.Place.{Place}
use Rattle.mspec_tree.specs.declared.words.ByteOrder.{ByteOrder}
use Rattle.mspec_tree.specs.declared.words.Lit.{Lit}
use Rattle.mspec_tree.specs.declared.words.Key.{Key}
use Rattle.mspec_tree.specs.declared.words.Simple.{Simple}
use Rattle.mspec_tree.specs.declared.exprs.Expr.{Expr}
use Rattle.mspec_tree.specs.declared.exprs.Ref.{Ref}
use Rattle.mspec_tree.specs.declared.fields.Field.{Field, roll-Field}
use Rattle.mspec_tree.specs.declared.fields.Body.{Body}
use Rattle.mspec_tree.specs.declared.fields.Body.TheVariants as body
use Rattle.mspec_tree.specs.declared.fields.Case.{Case, roll-Case}
use Rattle.mspec_tree.specs.declared.defs.Constant.{Constant}
use Rattle.mspec_tree.specs.declared.defs.Param.{Param}
use Rattle.mspec_tree.specs.declared.defs.Def.{Def}
use Rattle.mspec_tree.specs.declared.defs.DefBody.{DefBody}
use Rattle.mspec_tree.specs.declared.defs.DefBody.TheVariants as def
use Rattle.mspec_tree.specs.declared.defs.Description.{Description}
use Rattle.mspec_lexer.specs.Lexemes.{Lexeme}
use Rattle.mspec_lexer.specs.declared.tokens.Symbol.TheVariants as sign
use Rattle.mspec_grammar.specs.Meanings.{meaning, Sign, Name}
use Rattle.mspec_grammar.specs.Expressions.{Quoted}
use Rattle.mspec_grammar.specs.Parts.{Many, Listed, IsNamed, IsQuotedLit, IsConstLit, IsKey, IsSimple, IsKind, IsRef, IsParams, IsOrder, IsConstant}

-- ---- fields

-- What stands between a field's bracket and its byte order: the place of its name, its name, and the rest. Where there
-- is no name its place is the bracket's.
pub data IsBody (limit : ℕ) (bracket : Place) : List Lexeme → Place → List ℕ → Body → List Lexeme → Type 0 where
  simple : {w x : Lexeme} {from rest : List Lexeme} {ref : Ref} {name : List ℕ}
      → meaning w ≡ Name (codes "simple") → IsRef limit from ref (x ∷ rest) → meaning x ≡ Name name
      → IsBody limit bracket (w ∷ from) x.place name (body.Simple ref) rest
  discriminator : {w x : Lexeme} {from rest : List Lexeme} {kind : Ref} {name : List ℕ}
      → meaning w ≡ Name (codes "discriminator") → IsKind from kind (x ∷ rest) → meaning x ≡ Name name
      → IsBody limit bracket (w ∷ from) x.place name (body.Discriminator kind) rest
  const : {w x : Lexeme} {from behind rest : List Lexeme} {simple : Simple} {name : List ℕ} {lit : Lit}
      → meaning w ≡ Name (codes "const") → IsSimple from simple (x ∷ behind) → meaning x ≡ Name name → IsConstLit behind lit rest
      → IsBody limit bracket (w ∷ from) x.place name (body.Const simple lit) rest
  reserved : {w : Lexeme} {from behind rest : List Lexeme} {simple : Simple} {lit : Lit}
      → meaning w ≡ Name (codes "reserved") → IsSimple from simple behind → IsQuotedLit behind lit rest
      → IsBody limit bracket (w ∷ from) bracket [] (body.Reserved simple lit) rest
  implicit : {w x : Lexeme} {from behind rest : List Lexeme} {kind : Ref} {name : List ℕ} {e : Expr}
      → meaning w ≡ Name (codes "implicit") → IsKind from kind (x ∷ behind) → meaning x ≡ Name name → Quoted limit behind e rest
      → IsBody limit bracket (w ∷ from) x.place name (body.Implicit kind e) rest
  virtual : {w x : Lexeme} {from behind rest : List Lexeme} {kind : Ref} {name : List ℕ} {e : Expr}
      → meaning w ≡ Name (codes "virtual") → IsKind from kind (x ∷ behind) → meaning x ≡ Name name → Quoted limit behind e rest
      → IsBody limit bracket (w ∷ from) x.place name (body.Virtual kind e) rest
  optional : {w x : Lexeme} {from behind rest : List Lexeme} {ref : Ref} {name : List ℕ} {e : Expr}
      → meaning w ≡ Name (codes "optional") → IsRef limit from ref (x ∷ behind) → meaning x ≡ Name name → Quoted limit behind e rest
      → IsBody limit bracket (w ∷ from) x.place name (body.Optional ref e) rest
  checksum : {w x : Lexeme} {from behind rest : List Lexeme} {simple : Simple} {name : List ℕ} {e : Expr}
      → meaning w ≡ Name (codes "checksum") → IsSimple from simple (x ∷ behind) → meaning x ≡ Name name → Quoted limit behind e rest
      → IsBody limit bracket (w ∷ from) x.place name (body.Checksum simple e) rest
  padding : {w x : Lexeme} {from behind count rest : List Lexeme} {simple : Simple} {name : List ℕ} {lit : Lit} {e : Expr}
      → meaning w ≡ Name (codes "padding") → IsSimple from simple (x ∷ behind) → meaning x ≡ Name name
      → IsQuotedLit behind lit count → Quoted limit count e rest
      → IsBody limit bracket (w ∷ from) x.place name (body.Padding simple lit e) rest
  by_count : {w x how : Lexeme} {from behind rest : List Lexeme} {ref : Ref} {name : List ℕ} {e : Expr}
      → meaning w ≡ Name (codes "array") → IsRef limit from ref (x ∷ how ∷ behind) → meaning x ≡ Name name
      → meaning how ≡ Name (codes "count") → Quoted limit behind e rest
      → IsBody limit bracket (w ∷ from) x.place name (body.CountArray ref e) rest
  by_length : {w x how : Lexeme} {from behind rest : List Lexeme} {ref : Ref} {name : List ℕ} {e : Expr}
      → meaning w ≡ Name (codes "array") → IsRef limit from ref (x ∷ how ∷ behind) → meaning x ≡ Name name
      → meaning how ≡ Name (codes "length") → Quoted limit behind e rest
      → IsBody limit bracket (w ∷ from) x.place name (body.LengthArray ref e) rest

abbrev pub field_at : Lexeme → Place → List ℕ → Option ByteOrder → Body → Field
field_at left named name order form =
    roll-Field (record { place = left.place; named = named; name = name; order = order; body = form })

pub data IsField (limit : ℕ) : List Lexeme → Field → List Lexeme → Type 0 where
  field : {left right : Lexeme} {from behind rest : List Lexeme} {named : Place} {name : List ℕ} {order : Option ByteOrder} {form : Body}
      → meaning left ≡ Sign sign.LeftBracket → IsBody limit left.place from named name form behind
      → IsOrder behind order (right ∷ rest) → meaning right ≡ Sign sign.RightBracket
      → IsField limit (left ∷ from) (field_at left named name order form) rest

-- ---- switches

pub data IsKeys : List Lexeme → List Key → List Lexeme → Type 0 where
  none : {rest : List Lexeme} → IsKeys rest [] rest
  some : {from rest : List Lexeme} {keys : List Key} → Listed IsKey from keys rest → IsKeys from keys rest

pub data IsCase (limit : ℕ) : List Lexeme → Case → List Lexeme → Type 0 where
  case : {left x right : Lexeme} {from behind rest : List Lexeme} {keys : List Key} {name : List ℕ} {fields : List Field}
      → meaning left ≡ Sign sign.LeftBracket → IsKeys from keys (x ∷ behind) → meaning x ≡ Name name
      → Many (IsField limit) behind fields (right ∷ rest) → meaning right ≡ Sign sign.RightBracket
      → IsCase limit (left ∷ from)
      (roll-Case (record { place = left.place; named = x.place; keys = keys; name = name; fields = fields })) rest

pub data IsSwitch (limit : ℕ) : List Lexeme → Field → List Lexeme → Type 0 where
  switch : {left w right : Lexeme} {from behind rest : List Lexeme} {names : List (List ℕ)} {cases : List Case}
      → meaning left ≡ Sign sign.LeftBracket → meaning w ≡ Name (codes "typeSwitch")
      → Listed IsNamed from names behind → Many (IsCase limit) behind cases (right ∷ rest) → meaning right ≡ Sign sign.RightBracket
      → IsSwitch limit (left ∷ w ∷ from) (field_at left left.place [] None (body.Switch names cases)) rest

pub data IsMember (limit : ℕ) : List Lexeme → Field → List Lexeme → Type 0 where
  field : {from rest : List Lexeme} {f : Field} → IsField limit from f rest → IsMember limit from f rest
  switch : {from rest : List Lexeme} {f : Field} → IsSwitch limit from f rest → IsMember limit from f rest

-- ---- definitions

-- a name, parameters and a byte order, if there are any
pub data IsHead : List Lexeme → Place → List ℕ → List Param → Option ByteOrder → List Lexeme → Type 0 where
  head : {x : Lexeme} {from between rest : List Lexeme} {name : List ℕ} {params : List Param} {order : Option ByteOrder}
      → meaning x ≡ Name name → IsParams from params between → IsOrder between order rest
      → IsHead (x ∷ from) x.place name params order rest

abbrev pub def_at : Lexeme → Place → List ℕ → List Param → Option ByteOrder → DefBody → Def
def_at left named name params order form =
    record { place = left.place; named = named; name = name; params = params; order = order; body = form }

pub data IsDef (limit : ℕ) : List Lexeme → Def → List Lexeme → Type 0 where
  type_ : {left w right : Lexeme} {named : Place} {from behind rest : List Lexeme} {name : List ℕ} {params : List Param} {order : Option ByteOrder} {fields : List Field}
      → meaning left ≡ Sign sign.LeftBracket → meaning w ≡ Name (codes "type") → IsHead from named name params order behind
      → Many (IsField limit) behind fields (right ∷ rest) → meaning right ≡ Sign sign.RightBracket
      → IsDef limit (left ∷ w ∷ from) (def_at left named name params order (def.Plain fields)) rest
  discriminated : {left w right : Lexeme} {named : Place} {from behind rest : List Lexeme} {name : List ℕ} {params : List Param} {order : Option ByteOrder} {fields : List Field}
      → meaning left ≡ Sign sign.LeftBracket → meaning w ≡ Name (codes "discriminatedType") → IsHead from named name params order behind
      → Many (IsMember limit) behind fields (right ∷ rest) → meaning right ≡ Sign sign.RightBracket
      → IsDef limit (left ∷ w ∷ from) (def_at left named name params order (def.Switched fields)) rest
  data_io : {left w right : Lexeme} {named : Place} {from behind rest : List Lexeme} {name : List ℕ} {params : List Param} {order : Option ByteOrder} {switch : Field}
      → meaning left ≡ Sign sign.LeftBracket → meaning w ≡ Name (codes "dataIo") → IsHead from named name params order behind
      → IsSwitch limit behind switch (right ∷ rest) → meaning right ≡ Sign sign.RightBracket
      → IsDef limit (left ∷ w ∷ from) (def_at left named name params order (def.DataIo switch)) rest
  enum : {left w x right : Lexeme} {from between behind rest : List Lexeme} {simple : Simple} {name : List ℕ} {params : List Param} {constants : List Constant}
      → meaning left ≡ Sign sign.LeftBracket → meaning w ≡ Name (codes "enum") → IsSimple from simple (x ∷ between) → meaning x ≡ Name name
      → IsParams between params behind
      → Many IsConstant behind constants (right ∷ rest) → meaning right ≡ Sign sign.RightBracket
      → IsDef limit (left ∷ w ∷ from) (def_at left x.place name params None (def.Enum simple constants)) rest

-- the lexemes are a description, whose expressions are at most this deep
abbrev pub Tree : (limit : ℕ) → List Lexeme → Description → Type 0
Tree limit xs d = Many (IsDef limit) xs d.defs []
