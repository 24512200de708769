-- What is in the grammar at one limit is in it at each higher one.
use Rattle.std.proofs.Common.{ℕ, ◌≤◌, List, arith}
use Rattle.mspec_tree.specs.declared.words.Place.{Place}
use Rattle.mspec_tree.specs.declared.exprs.Expr.{Expr}
use Rattle.mspec_tree.specs.declared.exprs.Ref.{Ref}
use Rattle.mspec_tree.specs.declared.fields.Field.{Field}
use Rattle.mspec_tree.specs.declared.fields.Body.{Body}
use Rattle.mspec_tree.specs.declared.fields.Case.{Case}
use Rattle.mspec_tree.specs.declared.defs.Def.{Def}
use Rattle.mspec_tree.specs.declared.defs.Description.{Description}
use Rattle.mspec_lexer.specs.Lexemes.{Lexeme}
use Rattle.mspec_grammar.specs.Expressions.{Quoted, quoted}
use Rattle.mspec_grammar.specs.Parts.{Many, Listed, IsRef, none, more, last, kind, arguments}
use Rattle.mspec_grammar.specs.Trees.{IsBody, IsField, IsCase, IsSwitch, IsMember, IsDef, Tree, simple, discriminator, const, reserved, implicit, virtual, optional, checksum, padding, by_count, by_length, field, case, switch, type_, discriminated, data_io, enum}

many-map : {A : Type 0} {P Q : List Lexeme → A → List Lexeme → Type 0} → ((from : List Lexeme) (a : A) (rest : List Lexeme) → P from a rest → Q from a rest)
    → {from rest : List Lexeme} {parts : List A} → Many P from parts rest → Many Q from parts rest
many-map f none = none
many-map f (more {from} {mid} {rest} {a} p ps) = more (f from a mid p) (many-map f ps)

listed-map : {A : Type 0} {P Q : List Lexeme → A → List Lexeme → Type 0} → ((from : List Lexeme) (a : A) (rest : List Lexeme) → P from a rest → Q from a rest)
    → {from rest : List Lexeme} {parts : List A} → Listed P from parts rest → Listed Q from parts rest
listed-map f (last {from} {rest} {a} p) = last (f from a rest p)
listed-map f (more {from} {mid} {rest} {comma} {a} p hc ps) = more (f from a _ p) hc (listed-map f ps)

module _ (limit other : ℕ) (above : limit ≤ other) where
  quoted-deeper : {from rest : List Lexeme} {e : Expr} → Quoted limit from e rest → Quoted other from e rest
  quoted-deeper (quoted hl s hr fits) = quoted hl s hr (omega arith)

  ref-deeper : {from rest : List Lexeme} {r : Ref} → IsRef limit from r rest → IsRef other from r rest
  ref-deeper (kind k) = kind k
  ref-deeper (arguments h hl args hr) = arguments h hl (listed-map (λ f a r q. quoted-deeper q) args) hr

  body-deeper : {left named : Place} {from rest : List Lexeme} {name : List ℕ} {b : Body} → IsBody limit left from named name b rest → IsBody other left from named name b rest
  body-deeper (simple hw r hx) = simple hw (ref-deeper r) hx
  body-deeper (discriminator hw k hx) = discriminator hw k hx
  body-deeper (const hw s hx l) = const hw s hx l
  body-deeper (reserved hw s l) = reserved hw s l
  body-deeper (implicit hw k hx q) = implicit hw k hx (quoted-deeper q)
  body-deeper (virtual hw k hx q) = virtual hw k hx (quoted-deeper q)
  body-deeper (optional hw r hx q) = optional hw (ref-deeper r) hx (quoted-deeper q)
  body-deeper (checksum hw s hx q) = checksum hw s hx (quoted-deeper q)
  body-deeper (padding hw s hx l q) = padding hw s hx l (quoted-deeper q)
  body-deeper (by_count hw r hx hh q) = by_count hw (ref-deeper r) hx hh (quoted-deeper q)
  body-deeper (by_length hw r hx hh q) = by_length hw (ref-deeper r) hx hh (quoted-deeper q)

  field-deeper : {from rest : List Lexeme} {f : Field} → IsField limit from f rest → IsField other from f rest
  field-deeper (field hl b o hr) = field hl (body-deeper b) o hr

  fields-deeper : {from rest : List Lexeme} {fs : List Field} → Many (IsField limit) from fs rest → Many (IsField other) from fs rest
  fields-deeper fs = many-map (λ f a r p. field-deeper p) fs

  case-deeper : {from rest : List Lexeme} {c : Case} → IsCase limit from c rest → IsCase other from c rest
  case-deeper (case hl ks hx fs hr) = case hl ks hx (fields-deeper fs) hr

  switch-deeper : {from rest : List Lexeme} {f : Field} → IsSwitch limit from f rest → IsSwitch other from f rest
  switch-deeper (switch hl hw ns cs hr) = switch hl hw ns (many-map (λ f a r p. case-deeper p) cs) hr

  member-deeper : {from rest : List Lexeme} {f : Field} → IsMember limit from f rest → IsMember other from f rest
  member-deeper (field f) = field (field-deeper f)
  member-deeper (switch s) = switch (switch-deeper s)

  def-deeper : {from rest : List Lexeme} {d : Def} → IsDef limit from d rest → IsDef other from d rest
  def-deeper (type_ hl hw h fs hr) = type_ hl hw h (fields-deeper fs) hr
  def-deeper (discriminated hl hw h fs hr) = discriminated hl hw h (many-map (λ f a r p. member-deeper p) fs) hr
  def-deeper (data_io hl hw h s hr) = data_io hl hw h (switch-deeper s) hr
  def-deeper (enum hl hw s hx ps cs hr) = enum hl hw s hx ps cs hr

  pub tree-deeper : (xs : List Lexeme) (d : Description) → Tree limit xs d → Tree other xs d
  tree-deeper xs d t = many-map (λ f a r p. def-deeper p) t
