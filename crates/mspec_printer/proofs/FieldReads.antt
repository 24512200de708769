-- Printed fields, cases and switches are read back.
use Rattle.std.proofs.Common.{◌≡◌, ℕ, zero, suc, Bool, true, false, ◌&&◌, ◌||◌, List, [], ◌∷◌, ◌++◌, map, Option, Some, None, refl, sym, ap, ◌∙◌, subst}
use Rattle.std.specs.Prelude.{codes, is_none}
use Rattle.std.specs.List.{flat_map, list_all}
use Rattle.mspec_tree.specs.declared.words.ByteOrder.{ByteOrder}
use Rattle.mspec_tree.specs.declared.words.Key.{Key}
use Rattle.mspec_tree.specs.declared.words.Lit.{Lit}
use Rattle.mspec_tree.specs.declared.words.Place.{Place}
use Rattle.mspec_tree.specs.declared.words.Simple.{Simple}
use Rattle.mspec_tree.specs.declared.exprs.Expr.{Expr}
use Rattle.mspec_tree.specs.declared.exprs.Ref.{Ref}
use Rattle.mspec_tree.specs.declared.fields.Body.{Body, fold-Body, fold-roll-Body, fold_out-Body, map-Body, out-Body, roll-Body}
use Rattle.mspec_tree.specs.declared.fields.Body.TheOpen.{Body-F, Case-F, Field-F}
use Rattle.mspec_tree.specs.declared.fields.Body.TheOpen as layer
use Rattle.mspec_tree.specs.declared.fields.Body.TheVariants as body
use Rattle.mspec_tree.specs.declared.fields.Case.{Case, fold-Case, fold-roll-Case, fold_out-Case, out-Case, roll-Case}
use Rattle.mspec_tree.specs.declared.fields.Field.{Field, fold-roll-Field, fold_out-Field, out-Field, roll-Field}
use Rattle.mspec_tree.specs.Depth.{depth_limit}
use Rattle.mspec_tree.specs.Form.{are_names, is_body, is_case, is_empty, is_expr, is_field, is_key, is_kind, is_lit, is_name, is_ref, is_simple, is_switch, is_switch_body}
use Rattle.mspec_lexer.specs.declared.tokens.Symbol.TheVariants as sign
use Rattle.mspec_lexer.specs.Lexemes.{Lexeme}
use Rattle.mspec_lexer.specs.Tokens.{Piece}
use Rattle.mspec_grammar.specs.Meanings.{meaning, Name, Sign, word_of}
use Rattle.mspec_grammar.specs.Expressions.{Quoted}
use Rattle.mspec_grammar.specs.Parts.{bare, IsKey, IsNamed, Listed, Many}
use Rattle.mspec_grammar.specs.Trees.{field_at, IsBody, IsCase, IsField, IsKeys, IsMember, IsSwitch, none, some}
use Rattle.mspec_grammar.specs.Trees as grammar
use Rattle.mspec_printer.specs.Alike.{case_at_start, field_at_start, start, unplaced, unplaced_field, unplaced_layer, unplaced_ref}
use Rattle.mspec_printer.specs.Printed.{body_words, cases_of, expr, field_head, in_brackets, indent, line, lit, member, member_by, quoted, ref, spaced}
use Rattle.mspec_printer.specs.Printed as printed
use Rattle.mspec_printer.proofs.Spelling.{all_there, before_gap, before_gap_alone, before_gaps, before_last, both, done, exactly, gap, last_gap, Like, past_gap, Reads, reads-listed, reads-many, Spells, splits, word}
use Rattle.mspec_printer.proofs.SmallReads.{kind-reads, lit-reads, means_name, order-reads, quoted_lit-reads, reads-key, reads-named, simple-reads}
use Rattle.mspec_printer.proofs.ExprReads.{reads-quoted, ref-reads}

-- ---- fields without places

abbrev unplaced_body : Body → Body
unplaced_body b = fold-Body Body Case Field unplaced_layer case_at_start field_at_start b

abbrev pub unplaced_case : Case → Case
unplaced_case c = fold-Case Body Case Field unplaced_layer case_at_start field_at_start c

-- a layer, whose cases have no place
abbrev cases_unplaced : Body-F Body Case Field → Body-F Body Case Field
cases_unplaced l = map-Body Body Case Field Body Case Field unplaced_body unplaced_case unplaced_field l

body_out : (b : Body) → unplaced_body b ≡ unplaced_layer (cases_unplaced (out-Body b))
body_out b = fold_out-Body Body Case Field unplaced_layer case_at_start field_at_start b

body_at : (b : Body) (l : Body-F Body Case Field) → roll-Body l ≡ b → unplaced_body b ≡ unplaced_layer (cases_unplaced l)
body_at b l rolls =
    ap unplaced_body (sym rolls) ∙ fold-roll-Body Body Case Field unplaced_layer case_at_start field_at_start l

abbrev field_of : List ℕ → Option ByteOrder → Body → Field
field_of name order form = roll-Field (record { place = start; named = start; name = name; order = order; body = form })

field_out : (f : Field) → unplaced_field f ≡ field_of (out-Field f).name (out-Field f).order (unplaced_body (out-Field f).body)
field_out f = fold_out-Field Body Case Field unplaced_layer case_at_start field_at_start f

field_rolled : (left : Lexeme) (named : Place) (name : List ℕ) (order : Option ByteOrder) (form : Body) → unplaced_field (field_at left named name order form) ≡ field_of name order (unplaced_body form)
field_rolled left named name order form =
    fold-roll-Field Body Case Field unplaced_layer case_at_start field_at_start (record { place = left.place; named = named; name = name; order = order; body = form })

abbrev case_of : List Key → List ℕ → List Field → Case
case_of keys name fields = roll-Case (record { place = start; named = start; keys = keys; name = name; fields = fields })

case_out : (c : Case) → unplaced_case c ≡ case_of (out-Case c).keys (out-Case c).name (map unplaced_field (out-Case c).fields)
case_out c = fold_out-Case Body Case Field unplaced_layer case_at_start field_at_start c

case_rolled : (left named : Place) (keys : List Key) (name : List ℕ) (fields : List Field) → unplaced_case (roll-Case (record { place = left; named = named; keys = keys; name = name; fields = fields })) ≡ case_of keys name (map unplaced_field fields)
case_rolled left named keys name fields =
    fold-roll-Case Body Case Field unplaced_layer case_at_start field_at_start (record { place = left; named = named; keys = keys; name = name; fields = fields })

-- ---- bodies

-- what is read of a field's words, like this layer
record FoundBody (bracket : Place) (name : List ℕ) (l : Body-F Body Case Field) (from rest : List Lexeme) : Type 0 where
  named : Place
  value : Body
  reads : IsBody depth_limit bracket from named name value rest
  alike : unplaced_body value ≡ unplaced_layer (cases_unplaced l)

-- an expression in quotes behind a blank, last of all
expr_behind : (e : Expr) → is_expr e ≡ true → {from rest : List Lexeme} → Spells from (printed.blank ++ (quoted (expr e) ++ [])) rest → Like (Quoted depth_limit) unplaced (unplaced e) from rest
expr_behind e h s = (reads-quoted e h).by (all_there (quoted (expr e)) (past_gap s))

abbrev words_of : List ℕ → Body-F Body Case Field → List Piece
words_of name l = spaced (body_words name l)

empty_name : (bracket : Place) (name : List ℕ) (l : Body-F Body Case Field) (form : Body) {from rest : List Lexeme} → is_empty name ≡ true → IsBody depth_limit bracket from bracket [] form rest → unplaced_body form ≡ unplaced_layer (cases_unplaced l) → FoundBody bracket name l from rest
empty_name bracket [] l form h reads alike = record { named = bracket; value = form; reads = reads; alike = alike }
empty_name bracket (b ∷ name) l form h reads alike = absurd (cc)

reserved-reads : (bracket : Place) (name : List ℕ) (of : Simple) (value : Lit) → is_empty name && (is_simple of && is_lit value) ≡ true → {from rest : List Lexeme} → Spells from (words_of name (layer.Reserved of value)) rest → FoundBody bracket name (layer.Reserved of value) from rest
unfolding word_of
reserved-reads bracket name of value h (word w (gap s)) =
    let tests = both (is_empty name) _ h in
    let others = both (is_simple of) _ tests.1 in
    let parts = splits (printed.simple of) (printed.blank ++ (quoted (lit value) ++ [])) s in
    empty_name bracket name (layer.Reserved of value) (body.Reserved of value) tests.0
    (grammar.reserved w (simple-reads of others.0 parts.first) (quoted_lit-reads value (all_there (quoted (lit value)) (past_gap parts.second))))
    (body_at (body.Reserved of value) (layer.Reserved of value) (body.rolls-Reserved of value))

simple_body-reads : (bracket : Place) (name : List ℕ) (of : Ref) → is_name name && is_ref of ≡ true → {from rest : List Lexeme} → Spells from (words_of name (layer.Simple of)) rest → FoundBody bracket name (layer.Simple of) from rest
unfolding word_of
simple_body-reads bracket name of h (word w (gap s)) =
    let tests = both (is_name name) _ h in
    let parts = last_gap (ref of) _ _ _ s in
    let found = ref-reads of tests.1 parts.first in
    record {
      named = parts.x.place;
      value = body.Simple found.value;
      reads = grammar.simple w found.reads (means_name name tests.0 parts.means);
      alike = body_at (body.Simple found.value) (layer.Simple found.value) (body.rolls-Simple found.value) ∙ ap (λ r. roll-Body (layer.Simple r)) found.alike;
    }

discriminator-reads : (bracket : Place) (name : List ℕ) (of : Ref) → is_name name && is_kind of ≡ true → {from rest : List Lexeme} → Spells from (words_of name (layer.Discriminator of)) rest → FoundBody bracket name (layer.Discriminator of) from rest
unfolding word_of
discriminator-reads bracket name of h (word w (gap s)) =
    let tests = both (is_name name) _ h in
    let parts = last_gap (ref of) _ _ _ s in
    let found = kind-reads of tests.1 parts.first in
    record {
      named = parts.x.place;
      value = body.Discriminator found.value;
      reads = grammar.discriminator w found.reads (means_name name tests.0 parts.means);
      alike = body_at (body.Discriminator found.value) (layer.Discriminator found.value) (body.rolls-Discriminator found.value) ∙ ap (λ r. roll-Body (layer.Discriminator r)) found.alike;
    }

const-reads : (bracket : Place) (name : List ℕ) (of : Simple) (value : Lit) → is_name name && (is_simple of && is_lit value) ≡ true → {from rest : List Lexeme} → Spells from (words_of name (layer.Const of value)) rest → FoundBody bracket name (layer.Const of value) from rest
unfolding word_of
const-reads bracket name of value h (word w (gap s)) =
    let tests = both (is_name name) _ h in
    let others = both (is_simple of) _ tests.1 in
    let parts = before_gap (printed.simple of) _ _ _ _ s in
    record {
      named = parts.x.place;
      value = body.Const of value;
      reads = grammar.const w (simple-reads of others.0 parts.first) (means_name name tests.0 parts.means)
          (bare (lit-reads value (all_there (lit value) (past_gap parts.second))));
      alike = body_at (body.Const of value) (layer.Const of value) (body.rolls-Const of value);
    }

implicit-reads : (bracket : Place) (name : List ℕ) (of : Ref) (e : Expr) → is_name name && (is_kind of && is_expr e) ≡ true → {from rest : List Lexeme} → Spells from (words_of name (layer.Implicit of e)) rest → FoundBody bracket name (layer.Implicit of e) from rest
unfolding word_of
implicit-reads bracket name of e h (word w (gap s)) =
    let tests = both (is_name name) _ h in
    let others = both (is_kind of) _ tests.1 in
    let parts = before_gap (ref of) _ _ _ _ s in
    let kind = kind-reads of others.0 parts.first in
    let found = expr_behind e others.1 parts.second in
    record {
      named = parts.x.place;
      value = body.Implicit kind.value found.value;
      reads = grammar.implicit w kind.reads (means_name name tests.0 parts.means) found.reads;
      alike = body_at (body.Implicit kind.value found.value) (layer.Implicit kind.value found.value) (body.rolls-Implicit kind.value found.value)
          ∙ ap (λ r. roll-Body (layer.Implicit r (unplaced found.value))) kind.alike ∙ ap (λ x. roll-Body (layer.Implicit (unplaced_ref of) x)) found.alike;
    }

virtual-reads : (bracket : Place) (name : List ℕ) (of : Ref) (e : Expr) → is_name name && (is_kind of && is_expr e) ≡ true → {from rest : List Lexeme} → Spells from (words_of name (layer.Virtual of e)) rest → FoundBody bracket name (layer.Virtual of e) from rest
unfolding word_of
virtual-reads bracket name of e h (word w (gap s)) =
    let tests = both (is_name name) _ h in
    let others = both (is_kind of) _ tests.1 in
    let parts = before_gap (ref of) _ _ _ _ s in
    let kind = kind-reads of others.0 parts.first in
    let found = expr_behind e others.1 parts.second in
    record {
      named = parts.x.place;
      value = body.Virtual kind.value found.value;
      reads = grammar.virtual w kind.reads (means_name name tests.0 parts.means) found.reads;
      alike = body_at (body.Virtual kind.value found.value) (layer.Virtual kind.value found.value) (body.rolls-Virtual kind.value found.value)
          ∙ ap (λ r. roll-Body (layer.Virtual r (unplaced found.value))) kind.alike ∙ ap (λ x. roll-Body (layer.Virtual (unplaced_ref of) x)) found.alike;
    }

optional-reads : (bracket : Place) (name : List ℕ) (of : Ref) (e : Expr) → is_name name && (is_ref of && is_expr e) ≡ true → {from rest : List Lexeme} → Spells from (words_of name (layer.Optional of e)) rest → FoundBody bracket name (layer.Optional of e) from rest
unfolding word_of
optional-reads bracket name of e h (word w (gap s)) =
    let tests = both (is_name name) _ h in
    let others = both (is_ref of) _ tests.1 in
    let parts = before_gap (ref of) _ _ _ _ s in
    let type = ref-reads of others.0 parts.first in
    let found = expr_behind e others.1 parts.second in
    record {
      named = parts.x.place;
      value = body.Optional type.value found.value;
      reads = grammar.optional w type.reads (means_name name tests.0 parts.means) found.reads;
      alike = body_at (body.Optional type.value found.value) (layer.Optional type.value found.value) (body.rolls-Optional type.value found.value)
          ∙ ap (λ r. roll-Body (layer.Optional r (unplaced found.value))) type.alike ∙ ap (λ x. roll-Body (layer.Optional (unplaced_ref of) x)) found.alike;
    }

checksum-reads : (bracket : Place) (name : List ℕ) (of : Simple) (e : Expr) → is_name name && (is_simple of && is_expr e) ≡ true → {from rest : List Lexeme} → Spells from (words_of name (layer.Checksum of e)) rest → FoundBody bracket name (layer.Checksum of e) from rest
unfolding word_of
checksum-reads bracket name of e h (word w (gap s)) =
    let tests = both (is_name name) _ h in
    let others = both (is_simple of) _ tests.1 in
    let parts = before_gap (printed.simple of) _ _ _ _ s in
    let found = expr_behind e others.1 parts.second in
    record {
      named = parts.x.place;
      value = body.Checksum of found.value;
      reads = grammar.checksum w (simple-reads of others.0 parts.first) (means_name name tests.0 parts.means) found.reads;
      alike = body_at (body.Checksum of found.value) (layer.Checksum of found.value) (body.rolls-Checksum of found.value)
          ∙ ap (λ x. roll-Body (layer.Checksum of x)) found.alike;
    }

padding-reads : (bracket : Place) (name : List ℕ) (of : Simple) (value : Lit) (e : Expr) → is_name name && (is_simple of && (is_lit value && is_expr e)) ≡ true → {from rest : List Lexeme} → Spells from (words_of name (layer.Padding of value e)) rest → FoundBody bracket name (layer.Padding of value e) from rest
unfolding word_of
padding-reads bracket name of value e h (word w (gap s)) =
    let tests = both (is_name name) _ h in
    let others = both (is_simple of) _ tests.1 in
    let last = both (is_lit value) _ others.1 in
    let parts = before_gap (printed.simple of) _ _ _ _ s in
    let values = splits (quoted (lit value)) (printed.blank ++ (quoted (expr e) ++ [])) (past_gap parts.second) in
    let found = expr_behind e last.1 values.second in
    record {
      named = parts.x.place;
      value = body.Padding of value found.value;
      reads = grammar.padding w (simple-reads of others.0 parts.first) (means_name name tests.0 parts.means) (quoted_lit-reads value values.first) found.reads;
      alike = body_at (body.Padding of value found.value) (layer.Padding of value found.value) (body.rolls-Padding of value found.value)
          ∙ ap (λ x. roll-Body (layer.Padding of value x)) found.alike;
    }

count-reads : (bracket : Place) (name : List ℕ) (of : Ref) (e : Expr) → is_name name && (is_ref of && is_expr e) ≡ true → {from rest : List Lexeme} → Spells from (words_of name (layer.CountArray of e)) rest → FoundBody bracket name (layer.CountArray of e) from rest
unfolding word_of
count-reads bracket name of e h (word w (gap s)) =
    let tests = both (is_name name) _ h in
    let others = both (is_ref of) _ tests.1 in
    let parts = before_gaps (ref of) _ _ _ _ _ _ _ s in
    let type = ref-reads of others.0 parts.first in
    let found = expr_behind e others.1 parts.second in
    record {
      named = parts.x.place;
      value = body.CountArray type.value found.value;
      reads = grammar.by_count w type.reads (means_name name tests.0 parts.means) parts.also found.reads;
      alike = body_at (body.CountArray type.value found.value) (layer.CountArray type.value found.value) (body.rolls-CountArray type.value found.value)
          ∙ ap (λ r. roll-Body (layer.CountArray r (unplaced found.value))) type.alike ∙ ap (λ x. roll-Body (layer.CountArray (unplaced_ref of) x)) found.alike;
    }

length-reads : (bracket : Place) (name : List ℕ) (of : Ref) (e : Expr) → is_name name && (is_ref of && is_expr e) ≡ true → {from rest : List Lexeme} → Spells from (words_of name (layer.LengthArray of e)) rest → FoundBody bracket name (layer.LengthArray of e) from rest
unfolding word_of
length-reads bracket name of e h (word w (gap s)) =
    let tests = both (is_name name) _ h in
    let others = both (is_ref of) _ tests.1 in
    let parts = before_gaps (ref of) _ _ _ _ _ _ _ s in
    let type = ref-reads of others.0 parts.first in
    let found = expr_behind e others.1 parts.second in
    record {
      named = parts.x.place;
      value = body.LengthArray type.value found.value;
      reads = grammar.by_length w type.reads (means_name name tests.0 parts.means) parts.also found.reads;
      alike = body_at (body.LengthArray type.value found.value) (layer.LengthArray type.value found.value) (body.rolls-LengthArray type.value found.value)
          ∙ ap (λ r. roll-Body (layer.LengthArray r (unplaced found.value))) type.alike ∙ ap (λ x. roll-Body (layer.LengthArray (unplaced_ref of) x)) found.alike;
    }

body-reads : (bracket : Place) (name : List ℕ) (l : Body-F Body Case Field) → is_body name l ≡ true → {from rest : List Lexeme} → Spells from (words_of name l) rest → FoundBody bracket name l from rest
body-reads bracket name (layer.Simple of) h s = simple_body-reads bracket name of h s
body-reads bracket name (layer.Discriminator of) h s = discriminator-reads bracket name of h s
body-reads bracket name (layer.Const of value) h s = const-reads bracket name of value h s
body-reads bracket name (layer.Reserved of value) h s = reserved-reads bracket name of value h s
body-reads bracket name (layer.Implicit of e) h s = implicit-reads bracket name of e h s
body-reads bracket name (layer.Virtual of e) h s = virtual-reads bracket name of e h s
body-reads bracket name (layer.Optional of e) h s = optional-reads bracket name of e h s
body-reads bracket name (layer.Checksum of e) h s = checksum-reads bracket name of e h s
body-reads bracket name (layer.Padding of value e) h s = padding-reads bracket name of value e h s
body-reads bracket name (layer.CountArray of e) h s = count-reads bracket name of e h s
body-reads bracket name (layer.LengthArray of e) h s = length-reads bracket name of e h s
body-reads bracket name (layer.Switch names cases) h s = absurd (cc)

-- ---- fields

pub past_indent : (depth : ℕ) (p : List Piece) {from rest : List Lexeme} → Spells from (indent depth ++ p) rest → Spells from p rest
past_indent zero p s = s
past_indent (suc depth) p (gap (gap s)) = past_indent depth p s

-- a line without its blanks
pub on_line : (depth : ℕ) (p : List Piece) {from rest : List Lexeme} → Spells from (line depth p) rest → Spells from p rest
on_line depth p s = before_gap_alone p _ (past_indent depth (p ++ printed.line_end) s)

field_by : (f : Field) → is_field f ≡ true → {from rest : List Lexeme} → Spells from (in_brackets (field_head f)) rest → Like (IsField depth_limit) unplaced_field (unplaced_field f) from rest
field_by f h (word {x = left} means s) =
    let name = (out-Field f).name in
    let order = (out-Field f).order in
    let inside = before_last (field_head f) _ _ s in
    let parts = splits (words_of name (out-Body (out-Field f).body)) (printed.order order) inside.first in
    let found = body-reads left.place name (out-Body (out-Field f).body) h parts.first in
    record {
      value = field_at left found.named name order found.value;
      reads = grammar.field means found.reads (order-reads order parts.second) inside.means;
      alike =
          field_rolled left found.named name order found.value
          ∙ ap (λ b. field_of name order b) (found.alike ∙ sym (body_out (out-Field f).body))
          ∙ sym (field_out f);
    }

pub field-reads : (depth : ℕ) (f : Field) → is_field f ≡ true → {from rest : List Lexeme} → Spells from (printed.field depth f) rest → Like (IsField depth_limit) unplaced_field (unplaced_field f) from rest
field-reads depth f h s = field_by f h (on_line depth (in_brackets (field_head f)) s)

reads-field : (depth : ℕ) (f : Field) → is_field f ≡ true → Reads (IsField depth_limit) unplaced_field (printed.field depth) f
reads-field depth f h = record { by = field-reads depth f h }

-- ---- cases

keys-read : (ks : List Key) → list_all is_key ks ≡ true → {from rest : List Lexeme} → Spells from (printed.keys ks) rest → IsKeys from ks rest
keys-read [] h done = none
keys-read (k ∷ ks) h s =
    let tests = both (is_key k) _ h in
    let inside = before_gap_alone (printed.listed (map (λ l. quoted (printed.key_in_quotes l)) (k ∷ ks))) _ s in
    some (exactly (k ∷ ks) (reads-listed IsKey (λ l. l) (λ l. quoted (printed.key_in_quotes l)) is_key reads-key k ks tests.0 tests.1 inside))

-- a head in its bracket, what stands between, and the closing bracket
pub record Block (from : List Lexeme) (head inner : List Piece) (rest : List Lexeme) : Type 0 where
  pub mid : List Lexeme
  pub right : Lexeme
  pub opens : Spells from (printed.mark sign.LeftBracket ++ head) mid
  pub between : Spells mid inner (right ∷ rest)
  pub closes : meaning right ≡ Sign sign.RightBracket

pub block-splits : (depth : ℕ) (head inner : List Piece) {from rest : List Lexeme} → Spells from (printed.block depth head inner) rest → Block from head inner rest
block-splits depth head inner s =
    let right = printed.mark sign.RightBracket in
    let parts = splits (line depth (printed.mark sign.LeftBracket ++ head)) (inner ++ line depth right) s in
    let last = splits inner (line depth right) parts.second in
    closed parts.mid (on_line depth (printed.mark sign.LeftBracket ++ head) parts.first) last.first (on_line depth right last.second)
  where
    closed : {from rest beyond : List Lexeme} (mid : List Lexeme) → Spells from (printed.mark sign.LeftBracket ++ head) mid → Spells mid inner beyond → Spells beyond (printed.mark sign.RightBracket) rest → Block from head inner rest
    closed mid opens between (word {x} means done) =
        record { mid = mid; right = x; opens = opens; between = between; closes = means }

case_in : (depth : ℕ) (c : Case) → is_case c ≡ true → {from mid rest : List Lexeme} (right : Lexeme) → Spells from (printed.mark sign.LeftBracket ++ (printed.keys (out-Case c).keys ++ printed.word (out-Case c).name)) mid
    → Spells mid (flat_map (λ f. printed.field (suc depth) f) (out-Case c).fields) (right ∷ rest) → meaning right ≡ Sign sign.RightBracket
    → Like (IsCase depth_limit) unplaced_case (unplaced_case c) from rest
case_in depth c h right (word {x = left} opens s) between closes =
    let name = (out-Case c).name in
    let tests = both (list_all is_key (out-Case c).keys) _ h in
    let others = both (is_name name) _ tests.1 in
    let inside = before_last (printed.keys (out-Case c).keys) _ _ s in
    let fields = reads-many (IsField depth_limit) unplaced_field (printed.field (suc depth)) is_field (reads-field (suc depth)) (out-Case c).fields others.1 between in
    record {
      value = roll-Case (record { place = left.place; named = inside.x.place; keys = (out-Case c).keys; name = name; fields = fields.value });
      reads = grammar.case opens (keys-read (out-Case c).keys tests.0 inside.first) (means_name name others.0 inside.means) fields.reads closes;
      alike =
          case_rolled left.place inside.x.place (out-Case c).keys name fields.value
          ∙ ap (λ fs. case_of (out-Case c).keys name fs) fields.alike
          ∙ sym (case_out c);
    }

case_by : (depth : ℕ) (c : Case) → is_case c ≡ true → {from rest : List Lexeme} → Spells from (printed.case depth c) rest → Like (IsCase depth_limit) unplaced_case (unplaced_case c) from rest
case_by depth c h s =
    let parts = block-splits depth (printed.keys (out-Case c).keys ++ printed.word (out-Case c).name) (flat_map (λ f. printed.field (suc depth) f) (out-Case c).fields) s in
    case_in depth c h parts.right parts.opens parts.between parts.closes

reads-case : (depth : ℕ) (c : Case) → is_case c ≡ true → Reads (IsCase depth_limit) unplaced_case (printed.case depth) c
reads-case depth c h = record { by = case_by depth c h }

-- ---- switches

names-read : (names : List (List ℕ)) → are_names names ≡ true → {from rest : List Lexeme} → Spells from (printed.names names) rest → Listed IsNamed from names rest
names-read [] h s = absurd (cc)
names-read (name ∷ names) h s =
    let tests = both (is_name name) _ h in
    exactly (name ∷ names) (reads-listed IsNamed (λ n. n) printed.word is_name reads-named name names tests.0 tests.1 s)

-- a switch's head, which has no byte order
record SwitchHead (names : List (List ℕ)) (from mid : List Lexeme) : Type 0 where
  left : Lexeme
  w : Lexeme
  inside : List Lexeme
  is : from ≡ left ∷ w ∷ inside
  opens : meaning left ≡ Sign sign.LeftBracket
  means : meaning w ≡ Name (codes "typeSwitch")
  listed : Listed IsNamed inside names mid

switch_head : (name : List ℕ) (order : Option ByteOrder) (names : List (List ℕ)) (cases : List Case) → is_none order ≡ true → are_names names ≡ true → {from mid : List Lexeme} → Spells from (printed.mark sign.LeftBracket ++ (words_of name (layer.Switch names cases) ++ printed.order order)) mid → SwitchHead names from mid
unfolding word_of
switch_head name (Some order) names cases bare_order filled s = absurd (cc)
switch_head name None names cases bare_order filled (word {x = left} opens (word {x = w} {from = inside} means (gap s))) = record {
  left = left;
  w = w;
  inside = inside;
  is = refl;
  opens = opens;
  means = means;
  listed = names-read names filled (all_there (printed.names names) (all_there (printed.names names ++ []) s));
}

no_name : (name : List ℕ) → is_empty name ≡ true → [] ≡ name
no_name [] h = refl
no_name (b ∷ name) h = absurd (cc)

no_order : (order : Option ByteOrder) → is_none order ≡ true → None ≡ order
no_order None h = refl
no_order (Some order) h = absurd (cc)

switch_alike : (left : Lexeme) (f : Field) (names : List (List ℕ)) (cases found : List Case) → out-Body (out-Field f).body ≡ layer.Switch names cases → is_empty (out-Field f).name ≡ true → is_none (out-Field f).order ≡ true → map unplaced_case found ≡ map unplaced_case cases → unplaced_field (field_at left left.place [] None (body.Switch names found)) ≡ unplaced_field f
switch_alike left f names cases found e empty bare_order alike =
    field_rolled left left.place [] None (body.Switch names found)
    ∙ ap (λ b. field_of [] None b)
    (body_at (body.Switch names found) (layer.Switch names found) (body.rolls-Switch names found)
    ∙ ap (λ cs. roll-Body (layer.Switch names cs)) alike
    ∙ ap (λ l. unplaced_layer (cases_unplaced l)) (sym e)
    ∙ sym (body_out (out-Field f).body))
    ∙ ap (λ n. field_of n None (unplaced_body (out-Field f).body)) (no_name (out-Field f).name empty)
    ∙ ap (λ o. field_of (out-Field f).name o (unplaced_body (out-Field f).body)) (no_order (out-Field f).order bare_order)
    ∙ sym (field_out f)

headed : (names : List (List ℕ)) (cases : List Case) {from mid rest : List Lexeme} {right : Lexeme} (head : SwitchHead names from mid) → Many (IsCase depth_limit) mid cases (right ∷ rest) → meaning right ≡ Sign sign.RightBracket → IsSwitch depth_limit from (field_at head.left head.left.place [] None (body.Switch names cases)) rest
headed names cases {rest} head reads closes =
    let value : Field = field_at head.left head.left.place [] None (body.Switch names cases) in
    subst (λ (l : List Lexeme). IsSwitch depth_limit l value rest) (sym head.is) (grammar.switch head.opens head.means head.listed reads closes)

switch_in : (f : Field) (names : List (List ℕ)) (cases : List Case) → out-Body (out-Field f).body ≡ layer.Switch names cases → is_empty (out-Field f).name && (is_none (out-Field f).order && (are_names names && list_all is_case cases)) ≡ true → {from rest : List Lexeme} → Spells from (member_by (Some cases) f) rest → Like (IsSwitch depth_limit) unplaced_field (unplaced_field f) from rest
switch_in f names cases e h {from} s =
    let name = (out-Field f).name in
    let order = (out-Field f).order in
    let tests = both (is_empty name) _ h in
    let others = both (is_none order) _ tests.1 in
    let last = both (are_names names) _ others.1 in
    let parts = block-splits 1 (field_head f) (flat_map (λ c. printed.case 2 c) cases) s in
    let head = switch_head name order names cases others.0 last.0 (subst (λ b. Spells from (printed.mark sign.LeftBracket ++ (words_of name b ++ printed.order order)) parts.mid) e parts.opens) in
    let found = reads-many (IsCase depth_limit) unplaced_case (printed.case 2) is_case (reads-case 2) cases last.1 parts.between in
    record {
      value = field_at head.left head.left.place [] None (body.Switch names found.value);
      reads = headed names found.value head found.reads parts.closes;
      alike = switch_alike head.left f names cases found.value e tests.0 others.0 found.alike;
    }

switch_by : (f : Field) (l : Body-F Body Case Field) → out-Body (out-Field f).body ≡ l → is_empty (out-Field f).name && (is_none (out-Field f).order && is_switch_body l) ≡ true → {from rest : List Lexeme} → Spells from (member_by (cases_of l) f) rest → Like (IsSwitch depth_limit) unplaced_field (unplaced_field f) from rest
switch_by f (layer.Switch names cases) e h s = switch_in f names cases e h s
switch_by f other e h s =
    let tests = both (is_empty (out-Field f).name) _ h in
    let others = both (is_none (out-Field f).order) _ tests.1 in
    absurd (cc)

pub switch-reads : (f : Field) → is_switch f ≡ true → {from rest : List Lexeme} → Spells from (member f) rest → Like (IsSwitch depth_limit) unplaced_field (unplaced_field f) from rest
switch-reads f h s = switch_by f (out-Body (out-Field f).body) refl h s

-- ---- fields of definitions

no_cases : (name : List ℕ) (l : Body-F Body Case Field) → is_body name l ≡ true → cases_of l ≡ None
no_cases name (layer.Switch names cases) h = absurd (cc)
no_cases name other h = refl

plain_by : (f : Field) → is_field f ≡ true → {from rest : List Lexeme} → Spells from (member f) rest → Like (IsField depth_limit) unplaced_field (unplaced_field f) from rest
plain_by f h {from} {rest} s =
    field-reads 1 f h
    (subst (λ (o : Option (List Case)). Spells from (member_by o f) rest) (no_cases (out-Field f).name (out-Body (out-Field f).body) h) s)

pub reads-plain : (f : Field) → is_field f ≡ true → Reads (IsField depth_limit) unplaced_field member f
reads-plain f h = record { by = plain_by f h }

member_of : (f : Field) (v w : Bool) → is_field f ≡ v → is_switch f ≡ w → v || w ≡ true → {from rest : List Lexeme} → Spells from (member f) rest → Like (IsMember depth_limit) unplaced_field (unplaced_field f) from rest
member_of f true w e g h s =
    let found = plain_by f e s in record { value = found.value; reads = grammar.field found.reads; alike = found.alike }
member_of f false true e g h s =
    let found = switch-reads f g s in record { value = found.value; reads = grammar.switch found.reads; alike = found.alike }
member_of f false false e g h s = absurd (cc)

pub reads-member : (f : Field) → is_field f || is_switch f ≡ true → Reads (IsMember depth_limit) unplaced_field member f
reads-member f h = record { by = member_of f (is_field f) (is_switch f) refl refl h }
