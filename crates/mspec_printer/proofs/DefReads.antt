-- Printed definitions and descriptions are read back.
use Rattle.std.proofs.Common.{◌≡◌, ℕ, true, false, ◌&&◌, ◌||◌, List, [], ◌∷◌, ◌++◌, map, Option, Some, None, refl, sym, ap, ◌∙◌, subst}
use Rattle.std.specs.Prelude.{codes, is_none}
use Rattle.std.specs.List.{flat_map, list_all}
use Rattle.mspec_tree.specs.declared.words.ByteOrder.{ByteOrder}
use Rattle.mspec_tree.specs.declared.words.Place.{Place}
use Rattle.mspec_tree.specs.declared.words.Simple.{Simple}
use Rattle.mspec_tree.specs.declared.fields.Field.{Field}
use Rattle.mspec_tree.specs.declared.defs.Constant.{Constant}
use Rattle.mspec_tree.specs.declared.defs.Def.{Def}
use Rattle.mspec_tree.specs.declared.defs.DefBody.{DefBody}
use Rattle.mspec_tree.specs.declared.defs.DefBody.TheVariants as def
use Rattle.mspec_tree.specs.declared.defs.Description.{Description}
use Rattle.mspec_tree.specs.declared.defs.Param.{Param}
use Rattle.mspec_tree.specs.Depth.{depth_limit}
use Rattle.mspec_tree.specs.Form.{has_order, is_constant, is_def, is_def_body, is_field, is_name, is_param, is_simple, is_switch, IsWritten}
use Rattle.mspec_lexer.specs.declared.tokens.Symbol.TheVariants as sign
use Rattle.mspec_lexer.specs.Lexemes.{Lexeme}
use Rattle.mspec_lexer.specs.Tokens.{Piece}
use Rattle.mspec_grammar.specs.Meanings.{meaning, Name, Sign}
use Rattle.mspec_grammar.specs.Parts.{IsConstant, IsSimple, IsParams, Many}
use Rattle.mspec_grammar.specs.Trees.{def_at, IsDef, IsField, IsHead, IsMember, IsSwitch, Tree}
use Rattle.mspec_grammar.specs.Trees as grammar
use Rattle.mspec_printer.specs.Alike.{start, unplaced_constant, unplaced_def, unplaced_def_body, unplaced_field, unplaced_param}
use Rattle.mspec_printer.specs.Printed.{definition, member, spaced}
use Rattle.mspec_printer.specs.Printed as printed
use Rattle.mspec_printer.proofs.Spelling.{all_there, before_gap, both, gap, Like, Reads, reads-many, Spells, splits, word}
use Rattle.mspec_printer.proofs.SmallReads.{means_name, order-reads, params-read, reads-constant, simple-reads}
use Rattle.mspec_printer.proofs.FieldReads.{block-splits, reads-member, reads-plain, switch-reads}

abbrev in_list : List Param → List Piece
in_list ps = printed.unless_empty (λ some. printed.in_parentheses (printed.listed (map printed.param some))) ps

abbrev name_and : List ℕ → List Param → List Piece
name_and name ps = printed.word name ++ in_list ps

-- ---- heads

record FoundHead (name : List ℕ) (params : List Param) (order : Option ByteOrder) (from rest : List Lexeme) : Type 0 where
  named : Place
  found : List Param
  reads : IsHead from named name found order rest
  alike : map unplaced_param found ≡ map unplaced_param params

head_by : (name : List ℕ) (params : List Param) (order : Option ByteOrder) → is_name name ≡ true → list_all is_param params ≡ true → {from mid rest : List Lexeme} → Spells from (name_and name params) mid → Spells mid (printed.order order) rest → FoundHead name params order from rest
head_by name params order h k (word {x} means s) o =
    let found = params-read params k s in
    record {
      named = x.place;
      found = found.value;
      reads = grammar.head (means_name name h means) found.reads (order-reads order o);
      alike = found.alike;
    }

-- a word before a definition's name
record FoundWord (first : List ℕ) (name : List ℕ) (params : List Param) (order : Option ByteOrder) (from rest : List Lexeme) : Type 0 where
  left : Lexeme
  w : Lexeme
  inside : List Lexeme
  is : from ≡ left ∷ w ∷ inside
  opens : meaning left ≡ Sign sign.LeftBracket
  means : meaning w ≡ Name first
  head : FoundHead name params order inside rest

abbrev headed : (kind : List (List Piece)) → List ℕ → List Param → Option ByteOrder → List Piece
headed kind name params order =
    printed.mark sign.LeftBracket ++ (spaced (kind ++ (name_and name params ∷ [])) ++ printed.order order)

word_by : (first name : List ℕ) (params : List Param) (order : Option ByteOrder) → is_name first ≡ true → is_name name ≡ true → list_all is_param params ≡ true → {from rest : List Lexeme} → Spells from (headed (printed.word first ∷ []) name params order) rest → FoundWord first name params order from rest
word_by first name params order plain h k (word {x = left} opens (word {x = w} {from = inside} means (gap s))) =
    let parts = splits (name_and name params ++ []) (printed.order order) s in
    record {
      left = left;
      w = w;
      inside = inside;
      is = refl;
      opens = opens;
      means = means_name first plain means;
      head = head_by name params order h k (all_there (name_and name params) parts.first) parts.second;
    }

-- ---- definitions

abbrev def_of : List ℕ → List Param → Option ByteOrder → DefBody → Def
def_of name params order form =
    record { place = start; named = start; name = name; params = params; order = order; body = form }

abbrev LikeDef : Def → List Lexeme → List Lexeme → Type 0
LikeDef d from rest = Like (IsDef depth_limit) unplaced_def (unplaced_def d) from rest

both_alike : (name : List ℕ) (order : Option ByteOrder) {ps qs : List Param} {b c : DefBody} → ps ≡ qs → b ≡ c → def_of name ps order b ≡ def_of name qs order c
both_alike name order {qs} {b} e f = ap (λ ps. def_of name ps order b) e ∙ ap (λ c. def_of name qs order c) f

plain_by : (d : Def) (fields : List Field) → d.body ≡ def.Plain fields → is_name d.name ≡ true → list_all is_param d.params ≡ true → list_all is_field fields ≡ true → {from mid rest : List Lexeme} (right : Lexeme) → Spells from (headed (printed.word (codes "type") ∷ []) d.name d.params d.order) mid → Spells mid (flat_map member fields) (right ∷ rest) → meaning right ≡ Sign sign.RightBracket → LikeDef d from rest
plain_by d fields e h k tests {rest} right opens between closes =
    let first = word_by (codes "type") d.name d.params d.order refl h k opens in
    let found = reads-many (IsField depth_limit) unplaced_field member is_field reads-plain fields tests between in
    let value : Def = def_at first.left first.head.named d.name first.head.found d.order (def.Plain found.value) in
    record {
      value = value;
      reads = subst (λ (l : List Lexeme). IsDef depth_limit l value rest) (sym first.is) (grammar.type_ first.opens first.means first.head.reads found.reads closes);
      alike = both_alike d.name d.order first.head.alike (ap (λ fs. def.Plain fs) found.alike ∙ ap unplaced_def_body (sym e));
    }

switched_by : (d : Def) (fields : List Field) → d.body ≡ def.Switched fields → is_name d.name ≡ true → list_all is_param d.params ≡ true → list_all (λ f. is_field f || is_switch f) fields ≡ true → {from mid rest : List Lexeme} (right : Lexeme) → Spells from (headed (printed.word (codes "discriminatedType") ∷ []) d.name d.params d.order) mid → Spells mid (flat_map member fields) (right ∷ rest) → meaning right ≡ Sign sign.RightBracket → LikeDef d from rest
switched_by d fields e h k tests {rest} right opens between closes =
    let first = word_by (codes "discriminatedType") d.name d.params d.order refl h k opens in
    let found = reads-many (IsMember depth_limit) unplaced_field member (λ f. is_field f || is_switch f) reads-member fields tests between in
    let value : Def = def_at first.left first.head.named d.name first.head.found d.order (def.Switched found.value) in
    record {
      value = value;
      reads = subst (λ (l : List Lexeme). IsDef depth_limit l value rest) (sym first.is) (grammar.discriminated first.opens first.means first.head.reads found.reads closes);
      alike = both_alike d.name d.order first.head.alike (ap (λ fs. def.Switched fs) found.alike ∙ ap unplaced_def_body (sym e));
    }

data_io_by : (d : Def) (switch : Field) → d.body ≡ def.DataIo switch → is_name d.name ≡ true → list_all is_param d.params ≡ true → is_switch switch ≡ true → {from mid rest : List Lexeme} (right : Lexeme) → Spells from (headed (printed.word (codes "dataIo") ∷ []) d.name d.params d.order) mid → Spells mid (member switch) (right ∷ rest) → meaning right ≡ Sign sign.RightBracket → LikeDef d from rest
data_io_by d switch e h k test {rest} right opens between closes =
    let first = word_by (codes "dataIo") d.name d.params d.order refl h k opens in
    let found = switch-reads switch test between in
    let value : Def = def_at first.left first.head.named d.name first.head.found d.order (def.DataIo found.value) in
    record {
      value = value;
      reads = subst (λ (l : List Lexeme). IsDef depth_limit l value rest) (sym first.is) (grammar.data_io first.opens first.means first.head.reads found.reads closes);
      alike = both_alike d.name d.order first.head.alike (ap (λ f. def.DataIo f) found.alike ∙ ap unplaced_def_body (sym e));
    }

-- an enum's head, which has no byte order
record FoundEnum (base : Simple) (name : List ℕ) (params : List Param) (from rest : List Lexeme) : Type 0 where
  left : Lexeme
  w : Lexeme
  x : Lexeme
  inside : List Lexeme
  between : List Lexeme
  found : List Param
  is : from ≡ left ∷ w ∷ inside
  opens : meaning left ≡ Sign sign.LeftBracket
  means : meaning w ≡ Name (codes "enum")
  of : IsSimple inside base (x ∷ between)
  named : meaning x ≡ Name name
  reads : IsParams between found rest
  alike : map unplaced_param found ≡ map unplaced_param params

enum_head : (base : Simple) (name : List ℕ) (params : List Param) → is_simple base ≡ true → is_name name ≡ true → list_all is_param params ≡ true → {from rest : List Lexeme} → Spells from (headed (printed.word (codes "enum") ∷ printed.simple base ∷ []) name params None) rest → FoundEnum base name params from rest
enum_head base name params b h k (word {x = left} opens (word {x = w} {from = inside} means (gap s))) =
    let parts = before_gap (printed.simple base) _ _ _ _ (all_there _ s) in
    let found = params-read params k (all_there (in_list params) parts.second) in
    record {
      left = left;
      w = w;
      x = parts.x;
      inside = inside;
      between = parts.beyond;
      found = found.value;
      is = refl;
      opens = opens;
      means = means_name (codes "enum") refl means;
      of = simple-reads base b parts.first;
      named = means_name name h parts.means;
      reads = found.reads;
      alike = found.alike;
    }

enum_by : (d : Def) (base : Simple) (constants : List Constant) → d.body ≡ def.Enum base constants → None ≡ d.order → is_name d.name ≡ true → list_all is_param d.params ≡ true → is_simple base && list_all is_constant constants ≡ true → {from mid rest : List Lexeme} (right : Lexeme) → Spells from (headed (printed.word (codes "enum") ∷ printed.simple base ∷ []) d.name d.params None) mid → Spells mid (flat_map printed.constant constants) (right ∷ rest) → meaning right ≡ Sign sign.RightBracket → LikeDef d from rest
enum_by d base constants e bare_order h k tests {rest} right opens between closes =
    let others = both (is_simple base) _ tests in
    let first = enum_head base d.name d.params others.0 h k opens in
    let found = reads-many IsConstant unplaced_constant printed.constant is_constant reads-constant constants others.1 between in
    let value : Def = def_at first.left first.x.place d.name first.found None (def.Enum base found.value) in
    record {
      value = value;
      reads = subst (λ (l : List Lexeme). IsDef depth_limit l value rest) (sym first.is) (grammar.enum first.opens first.means first.of first.named first.reads found.reads closes);
      alike = both_alike d.name None first.alike (ap (λ cs. def.Enum base cs) found.alike ∙ ap unplaced_def_body (sym e))
          ∙ ap (λ o. def_of d.name (map unplaced_param d.params) o (unplaced_def_body d.body)) bare_order;
    }

no_order : (order : Option ByteOrder) → false || is_none order ≡ true → None ≡ order
no_order None h = refl
no_order (Some order) h = absurd (cc)

def_by : (d : Def) (form : DefBody) → d.body ≡ form → is_name d.name ≡ true → list_all is_param d.params ≡ true → has_order form || is_none d.order ≡ true → is_def_body form ≡ true → {from mid rest : List Lexeme} (right : Lexeme) → Spells from (headed (printed.kind_words form) d.name d.params d.order) mid → Spells mid (printed.inner form) (right ∷ rest) → meaning right ≡ Sign sign.RightBracket → LikeDef d from rest
def_by d (def.Plain fields) e h k o tests right opens between closes = plain_by d fields e h k tests right opens between closes
def_by d (def.Switched fields) e h k o tests right opens between closes = switched_by d fields e h k tests right opens between closes
def_by d (def.DataIo switch) e h k o tests right opens between closes = data_io_by d switch e h k tests right opens between closes
def_by d (def.Enum base constants) e h k o tests {from} {mid} right opens between closes =
    let bare_order = no_order d.order o in
    enum_by d base constants e bare_order h k tests right
    (subst (λ (order : Option ByteOrder). Spells from (headed (printed.word (codes "enum") ∷ printed.simple base ∷ []) d.name d.params order) mid) (sym bare_order) opens)
    between closes

definition_by : (d : Def) → is_def d ≡ true → {from rest : List Lexeme} → Spells from (definition d) rest → LikeDef d from rest
definition_by d h s =
    let tests = both (is_name d.name) _ h in
    let others = both (list_all is_param d.params) _ tests.1 in
    let last = both (has_order d.body || is_none d.order) _ others.1 in
    let parts = block-splits 0 (spaced (printed.kind_words d.body ++ (printed.named d ∷ [])) ++ printed.order d.order) (printed.inner d.body) s in
    def_by d d.body refl tests.0 others.0 last.0 last.1 parts.right parts.opens parts.between parts.closes

reads-definition : (d : Def) → is_def d ≡ true → Reads (IsDef depth_limit) unplaced_def definition d
reads-definition d h = record { by = definition_by d h }

-- a description that is like this one is read of lexemes that spell its printed form
pub description-reads : (d : Description) → IsWritten d → {from : List Lexeme} → Spells from (printed.printed d) [] → Like (Many (IsDef depth_limit)) (map unplaced_def) (map unplaced_def d.defs) from []
description-reads d h s = reads-many (IsDef depth_limit) unplaced_def definition is_def reads-definition d.defs h s
