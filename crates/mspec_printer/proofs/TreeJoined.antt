-- The words of a printed description stand apart.
use Rattle.std.proofs.Common.{◌≡◌, ℕ, suc, Bool, true, false, ◌||◌, List, [], ◌∷◌, ◌++◌, map, refl, sym, subst}
use Rattle.std.specs.Prelude.{codes, is_none}
use Rattle.std.specs.List.{AllByRecursion, list_all}
use Rattle.mspec_tree.specs.declared.words.Key.{Key}
use Rattle.mspec_tree.specs.declared.words.Lit.{Lit}
use Rattle.mspec_tree.specs.declared.exprs.Expr.{Expr}
use Rattle.mspec_tree.specs.declared.exprs.Ref.{Ref}
use Rattle.mspec_tree.specs.declared.exprs.Ref.TheVariants.{Plain, Named}
use Rattle.mspec_tree.specs.declared.fields.Body.{Body, out-Body}
use Rattle.mspec_tree.specs.declared.fields.Body.TheOpen.{Body-F}
use Rattle.mspec_tree.specs.declared.fields.Body.TheOpen as layer
use Rattle.mspec_tree.specs.declared.fields.Case.{Case, out-Case}
use Rattle.mspec_tree.specs.declared.fields.Field.{Field, out-Field}
use Rattle.mspec_tree.specs.declared.defs.Constant.{Constant}
use Rattle.mspec_tree.specs.declared.defs.Def.{Def}
use Rattle.mspec_tree.specs.declared.defs.DefBody.{DefBody}
use Rattle.mspec_tree.specs.declared.defs.DefBody.TheVariants as def
use Rattle.mspec_tree.specs.declared.defs.Description.{Description}
use Rattle.mspec_tree.specs.declared.defs.Param.{Param}
use Rattle.mspec_tree.specs.Form.{are_names, has_order, is_body, is_case, is_constant, is_def, is_def_body, is_empty, is_expr, is_field, is_key, is_kind, is_lit, is_name, is_param, is_ref, is_simple, is_switch, is_switch_body, IsWritten}
use Rattle.mspec_lexer.specs.Tokens.{Piece, StandBefore}
use Rattle.mspec_printer.specs.Printed.{blank, body_words, cases_of, expr, field_head, in_brackets, lit, member, member_by, quoted, ref, spaced, word}
use Rattle.mspec_printer.specs.Printed as printed
use Rattle.mspec_printer.proofs.ExprJoined.{quoted-joined, ref-joined}
use Rattle.mspec_printer.proofs.Joined.{all-free, begins_blank, Free, free_blank, free_block, free_in_brackets, free_joined, free_line, free_quoted, free_then, items-joined, Joined, joined_name, joined_word, key-joined, listed-joined, lit-joined, no_tail, order-tail, parentheses-tail, simple-joined, spaced-joined, Tail, tail_of, then_free, then_tail}
use Rattle.mspec_printer.proofs.Spelling.{both}

kind-joined : (r : Ref) → is_kind r ≡ true → Joined (ref r)
kind-joined (Plain simple) h = ref-joined (Plain simple) h
kind-joined (Named place name []) h =
    then_tail (joined_name name (both (is_name name) _ h).0) no_tail
kind-joined (Named place name (arg ∷ args)) h = absurd (cc)

quoted_lit : (value : Lit) → is_lit value ≡ true → Joined (quoted (lit value))
quoted_lit value h = free_joined (free_quoted (lit-joined value h))

-- ---- fields

abbrev AllJoined : List (List Piece) → Type 0
AllJoined parts = AllByRecursion Joined parts

typed : (first name : List ℕ) {p : List Piece} → Joined (word first) → Joined p → is_name name ≡ true → AllJoined (word first ∷ p ∷ word name ∷ [])
typed first name w j h = (w, (j, (joined_name name h, tt)))

computed : (first name : List ℕ) {p : List Piece} (e : Expr) → Joined (word first) → Joined p → is_name name ≡ true → is_expr e ≡ true → AllJoined (word first ∷ p ∷ word name ∷ quoted (expr e) ∷ [])
computed first name e w j h k = (w, (j, (joined_name name h, (quoted-joined e k, tt))))

array : (name how : List ℕ) {p : List Piece} (e : Expr) → Joined (word how) → Joined p → is_name name ≡ true → is_expr e ≡ true → AllJoined (word (codes "array") ∷ p ∷ word name ∷ word how ∷ quoted (expr e) ∷ [])
array name how e w j h k = (joined_word (codes "array") refl, (j, (joined_name name h, (w, (quoted-joined e k, tt)))))

body-joined : (name : List ℕ) (l : Body-F Body Case Field) → is_body name l ≡ true → AllJoined (body_words name l)
body-joined name (layer.Simple of) h =
    let tests = both (is_name name) _ h in
    typed (codes "simple") name (joined_word (codes "simple") refl) (ref-joined of tests.1) tests.0
body-joined name (layer.Discriminator of) h =
    let tests = both (is_name name) _ h in
    typed (codes "discriminator") name (joined_word (codes "discriminator") refl) (kind-joined of tests.1) tests.0
body-joined name (layer.Const of value) h =
    let tests = both (is_name name) _ h in
    let others = both (is_simple of) _ tests.1 in
    (joined_word (codes "const") refl, (simple-joined of others.0, (joined_name name tests.0, (lit-joined value others.1, tt))))
body-joined name (layer.Reserved of value) h =
    let tests = both (is_empty name) _ h in
    let others = both (is_simple of) _ tests.1 in
    (joined_word (codes "reserved") refl, (simple-joined of others.0, (quoted_lit value others.1, tt)))
body-joined name (layer.Implicit of e) h =
    let tests = both (is_name name) _ h in
    let others = both (is_kind of) _ tests.1 in
    computed (codes "implicit") name e (joined_word (codes "implicit") refl) (kind-joined of others.0) tests.0 others.1
body-joined name (layer.Virtual of e) h =
    let tests = both (is_name name) _ h in
    let others = both (is_kind of) _ tests.1 in
    computed (codes "virtual") name e (joined_word (codes "virtual") refl) (kind-joined of others.0) tests.0 others.1
body-joined name (layer.Optional of e) h =
    let tests = both (is_name name) _ h in
    let others = both (is_ref of) _ tests.1 in
    computed (codes "optional") name e (joined_word (codes "optional") refl) (ref-joined of others.0) tests.0 others.1
body-joined name (layer.Checksum of e) h =
    let tests = both (is_name name) _ h in
    let others = both (is_simple of) _ tests.1 in
    computed (codes "checksum") name e (joined_word (codes "checksum") refl) (simple-joined of others.0) tests.0 others.1
body-joined name (layer.Padding of value e) h =
    let tests = both (is_name name) _ h in
    let others = both (is_simple of) _ tests.1 in
    let last = both (is_lit value) _ others.1 in
    (joined_word (codes "padding") refl, (simple-joined of others.0, (joined_name name tests.0, (quoted_lit value last.0, (quoted-joined e last.1, tt)))))
body-joined name (layer.CountArray of e) h =
    let tests = both (is_name name) _ h in
    let others = both (is_ref of) _ tests.1 in
    array name (codes "count") e (joined_word (codes "count") refl) (ref-joined of others.0) tests.0 others.1
body-joined name (layer.LengthArray of e) h =
    let tests = both (is_name name) _ h in
    let others = both (is_ref of) _ tests.1 in
    array name (codes "length") e (joined_word (codes "length") refl) (ref-joined of others.0) tests.0 others.1
body-joined name (layer.Switch names cases) h = absurd (cc)

head-joined : (f : Field) → AllJoined (body_words (out-Field f).name (out-Body (out-Field f).body)) → Joined (field_head f)
head-joined f all =
    then_tail (spaced-joined (body_words (out-Field f).name (out-Body (out-Field f).body)) all) (order-tail (out-Field f).order)

field-free : (depth : ℕ) (f : Field) → is_field f ≡ true → Free (printed.field depth f)
field-free depth f h =
    free_line depth (free_joined (free_in_brackets (head-joined f (body-joined (out-Field f).name (out-Body (out-Field f).body) h))))

-- ---- cases

keys-free : (ks : List Key) → list_all is_key ks ≡ true → Free (printed.keys ks)
keys-free [] h = record { by = λ behind. tt }
keys-free (k ∷ ks) h =
    then_free (listed-joined (map (λ l. quoted (printed.key_in_quotes l)) (k ∷ ks))
    (items-joined (λ l. quoted (printed.key_in_quotes l)) is_key (λ l g. free_joined (free_quoted (key-joined l g))) (k ∷ ks) h))
    begins_blank free_blank

case-free : (depth : ℕ) (c : Case) → is_case c ≡ true → Free (printed.case depth c)
case-free depth c h =
    let tests = both (list_all is_key (out-Case c).keys) _ h in
    let others = both (is_name (out-Case c).name) _ tests.1 in
    free_block depth (free_then (keys-free (out-Case c).keys tests.0) (joined_name (out-Case c).name others.0))
    (all-free (λ f. printed.field (suc depth) f) is_field (field-free (suc depth)) (out-Case c).fields others.1)

-- ---- switches

names-joined : (names : List (List ℕ)) → are_names names ≡ true → Joined (printed.names names)
names-joined [] h = absurd (cc)
names-joined (name ∷ names) h =
    listed-joined (map word (name ∷ names)) (items-joined word is_name joined_name (name ∷ names) h)

switch_by : (f : Field) (l : Body-F Body Case Field) → out-Body (out-Field f).body ≡ l → is_switch_body l ≡ true → Free (member_by (cases_of l) f)
switch_by f (layer.Switch names cases) e h =
    let tests = both (are_names names) _ h in
    let all : AllJoined (body_words (out-Field f).name (layer.Switch names cases)) = (joined_word (codes "typeSwitch") refl, (names-joined names tests.0, tt)) in
    free_block 1 (head-joined f (subst (λ (b : Body-F Body Case Field). AllJoined (body_words (out-Field f).name b)) (sym e) all))
    (all-free (λ c. printed.case 2 c) is_case (case-free 2) cases tests.1)
switch_by f other e h = absurd (cc)

switch-free : (f : Field) → is_switch f ≡ true → Free (member f)
switch-free f h =
    let tests = both (is_empty (out-Field f).name) _ h in
    let others = both (is_none (out-Field f).order) _ tests.1 in
    switch_by f (out-Body (out-Field f).body) refl others.1

plain_by : (f : Field) (l : Body-F Body Case Field) → is_field f ≡ true → is_body (out-Field f).name l ≡ true → Free (member_by (cases_of l) f)
plain_by f (layer.Switch names cases) h k = absurd (cc)
plain_by f other h k = field-free 1 f h

plain-free : (f : Field) → is_field f ≡ true → Free (member f)
plain-free f h = plain_by f (out-Body (out-Field f).body) h h

member_of : (f : Field) (v w : Bool) → is_field f ≡ v → is_switch f ≡ w → v || w ≡ true → Free (member f)
member_of f true w e g h = plain-free f e
member_of f false true e g h = switch-free f g
member_of f false false e g h = absurd (cc)

member-free : (f : Field) → is_field f || is_switch f ≡ true → Free (member f)
member-free f h = member_of f (is_field f) (is_switch f) refl refl h

-- ---- definitions

param-joined : (p : Param) → is_param p ≡ true → Joined (printed.param p)
param-joined p h =
    let tests = both (is_kind p.kind) _ h in
    spaced-joined (ref p.kind ∷ word p.name ∷ []) (kind-joined p.kind tests.0, (joined_name p.name tests.1, tt))

attributes-tail : (values : List Lit) → list_all is_lit values ≡ true → Tail (printed.attributes values)
attributes-tail [] h = no_tail
attributes-tail (value ∷ values) h =
    let some = listed-joined (map (λ l. quoted (lit l)) (value ∷ values)) (items-joined (λ l. quoted (lit l)) is_lit quoted_lit (value ∷ values) h) in
    tail_of (free_then free_blank (free_joined (free_in_brackets some))) (record { by = λ behind. refl })

constant-free : (c : Constant) → is_constant c ≡ true → Free (printed.constant c)
constant-free c h =
    let tests = both (is_lit c.value) _ h in
    let others = both (is_name c.name) _ tests.1 in
    let front = spaced-joined (quoted (lit c.value) ∷ word c.name ∷ []) (quoted_lit c.value tests.0, (joined_name c.name others.0, tt)) in
    free_line 1 (free_joined (free_in_brackets (then_tail front (attributes-tail c.attrs others.1))))

named-joined : (d : Def) → is_name d.name ≡ true → list_all is_param d.params ≡ true → Joined (printed.named d)
named-joined d h k = then_tail (joined_name d.name h) (parentheses-tail printed.param is_param param-joined d.params k)

kind_words-joined : (form : DefBody) (p : List Piece) → is_def_body form ≡ true → Joined p → Joined (spaced (printed.kind_words form ++ (p ∷ [])))
kind_words-joined (def.Plain fields) p h j = spaced-joined (word (codes "type") ∷ p ∷ []) (joined_word (codes "type") refl, (j, tt))
kind_words-joined (def.Switched fields) p h j = spaced-joined (word (codes "discriminatedType") ∷ p ∷ []) (joined_word (codes "discriminatedType") refl, (j, tt))
kind_words-joined (def.DataIo switch) p h j = spaced-joined (word (codes "dataIo") ∷ p ∷ []) (joined_word (codes "dataIo") refl, (j, tt))
kind_words-joined (def.Enum base constants) p h j =
    spaced-joined (word (codes "enum") ∷ printed.simple base ∷ p ∷ []) (joined_word (codes "enum") refl, (simple-joined base (both (is_simple base) _ h).0, (j, tt)))

inner-free : (form : DefBody) → is_def_body form ≡ true → Free (printed.inner form)
inner-free (def.Plain fields) h = all-free member is_field plain-free fields h
inner-free (def.Switched fields) h = all-free member (λ f. is_field f || is_switch f) member-free fields h
inner-free (def.DataIo switch) h = switch-free switch h
inner-free (def.Enum base constants) h = all-free printed.constant is_constant constant-free constants (both (is_simple base) _ h).1

definition-free : (d : Def) → is_def d ≡ true → Free (printed.definition d)
definition-free d h =
    let tests = both (is_name d.name) _ h in
    let others = both (list_all is_param d.params) _ tests.1 in
    let last = both (has_order d.body || is_none d.order) _ others.1 in
    free_block 0 (then_tail (kind_words-joined d.body (printed.named d) last.1 (named-joined d tests.0 others.0)) (order-tail d.order)) (inner-free d.body last.1)

pub description-stands : (d : Description) → IsWritten d → StandBefore (printed.printed d) []
description-stands d h = (all-free printed.definition is_def definition-free d.defs h).by []
