-- Where fields and switches stop.
use Rattle.std.proofs.Common.{ℕ, ◌≡◌, Bool, true, false, List, [], codes, Option, None, Ok, refl}
use Rattle.mspec_tree.specs.declared.words.Place.{Place}
use Rattle.mspec_tree.specs.declared.words.ByteOrder.{ByteOrder}
use Rattle.mspec_tree.specs.declared.words.Key.{Key}
use Rattle.mspec_tree.specs.declared.exprs.Expr.{Expr}
use Rattle.mspec_tree.specs.declared.fields.Field.{Field, roll-Field}
use Rattle.mspec_tree.specs.declared.fields.Body.TheVariants as body
use Rattle.mspec_tree.specs.declared.fields.Case.{Case, roll-Case}
use Rattle.mspec_lexer.specs.Lexemes.{Lexeme}
use Rattle.mspec_lexer.specs.declared.tokens.Symbol.TheVariants as sign
use Rattle.mspec_grammar.specs.declared.faults.ParseWhy.TheVariants.{Unexpected}
use Rattle.mspec_grammar.specs.Meanings.{Meaning, Number, Sign, Taken, Name}
use Rattle.mspec_quotes.specs.Machine.{read_quoted}
use Rattle.mspec_parser.specs.declared.words.Mark.TheVariants as mark
use Rattle.mspec_parser.specs.declared.words.FieldWord.{FieldWord}
use Rattle.mspec_parser.specs.declared.words.FieldWord.TheVariants as field_word
use Rattle.mspec_parser.specs.declared.fields.NamedBody.{NamedBody}
use Rattle.mspec_parser.specs.Readers.{Read, ◌>>=◌, one, is_word, passing, mark_at, word_at, name_at}
use Rattle.mspec_parser.specs.Small.{quoted_lit_at, const_lit_at, keys_at}
use Rattle.mspec_parser.specs.Fields.{pick_field, pick_array, named_body, ref_name_at, kind_name_at, simple_name_at, simple_body, discriminator_body, const_body, reserved_body, implicit_body, virtual_body, optional_body, checksum_body, padding_body, array_of, array_body, body_from, field_from, field_at, fields_at, case_at, cases_at, bare_name_at, switch_from, switch_at, MemberWord, of_field, of_switch, pick_member, member_from, member_at, members_at}
use Rattle.mspec_parser.proofs.Stops.{opens}
use Rattle.mspec_parser.proofs.Behave.{Law, nothing, Within, Apart, wider, Starts, starts-then, Blocks, blocks-nothing, blocks-start, blocks-gives, blocks-then, one-law, gives-law, then-law}
use Rattle.mspec_parser.proofs.Rows.{many-law, blocks-many}
use Rattle.mspec_parser.proofs.Quoting.{quoted-law, quoted-starts}
use Rattle.mspec_parser.proofs.Picks.{switch-word-proper}
use Rattle.mspec_parser.proofs.WordPicks.{field-proper, member-proper, array-proper}
use Rattle.mspec_parser.proofs.SmallLaws.{mark-plain, mark-law, mark-starts, word-law, name-law, name-starts, comma, listed-law, quoted_lit-law, const_lit-law, goes_key, keys-law, simple-law, kind-law, ref-law, order-law, order-blocks, bracket}

-- ---- a type and a name

abbrev pair : {A : Type 0} → A → List ℕ × Place → A × (List ℕ × Place)
pair a n = (a, n)

-- where a part that a name follows
with_name-law : {A : Type 0} {first_go : Meaning → Bool} {r : ℕ → List Lexeme → Read A} (go : Meaning → Bool) → ((w : List ℕ) → first_go (Name w) ≡ false) → Law true first_go r
    → Law true go (λ limit xs. r limit xs >>= λ a. name_at a.1 >>= λ n. Ok (pair a.0 n.0, n.1))
with_name-law {A} {first_go} go free law =
    then-law law (λ a. then-law (name-law go) (λ n. gives-law go (pair a n)) (λ n. blocks-gives go (pair a n)))
    (λ a. blocks-start (starts-then (name-starts first_go false free) (λ n limit xs. Ok (pair a n, xs))) go)

ref_name-law : (go : Meaning → Bool) → Law true go ref_name_at
unfolding ref_name_at
ref_name-law go = with_name-law go (λ w. refl) ref-law

kind_name-law : (go : Meaning → Bool) → Law true go (λ limit xs. kind_name_at xs)
unfolding kind_name_at
kind_name-law go = with_name-law go (λ w. refl) (kind-law nothing)

simple_name-law : (go : Meaning → Bool) → Law true go (λ limit xs. simple_name_at xs)
unfolding simple_name_at
simple_name-law go = with_name-law go (λ w. refl) (simple-law nothing)

-- ---- bodies

simple_body-law : Law true opens simple_body
unfolding simple_body
simple_body-law = then-law (ref_name-law nothing) (λ f. gives-law opens (named_body f.1 (body.Simple f.0))) (λ f. blocks-nothing opens (λ limit xs. Ok (named_body f.1 (body.Simple f.0), xs)))

discriminator_body-law : Law true opens (λ limit xs. discriminator_body xs)
unfolding discriminator_body
discriminator_body-law =
    then-law (kind_name-law nothing) (λ f. gives-law opens (named_body f.1 (body.Discriminator f.0))) (λ f. blocks-nothing opens (λ limit xs. Ok (named_body f.1 (body.Discriminator f.0), xs)))

const_body-law : Law true opens (λ limit xs. const_body xs)
unfolding const_body
const_body-law =
    then-law (simple_name-law nothing)
    (λ f. then-law const_lit-law (λ lit. gives-law opens (named_body f.1 (body.Const f.0 lit))) (λ lit. blocks-gives opens (named_body f.1 (body.Const f.0 lit))))
    (λ f. blocks-nothing opens (λ limit xs. const_lit_at xs >>= λ lit. Ok (named_body f.1 (body.Const f.0 lit.0), lit.1)))

abbrev unnamed : Place → List ℕ × Place
unnamed place = ([], place)

reserved_body-law : (left : Place) → Law true opens (λ limit xs. reserved_body left xs)
unfolding reserved_body
reserved_body-law left =
    then-law (simple-law nothing)
    (λ s. then-law quoted_lit-law (λ lit. gives-law opens (named_body (unnamed left) (body.Reserved s lit))) (λ lit. blocks-gives opens (named_body (unnamed left) (body.Reserved s lit))))
    (λ s. blocks-nothing opens (λ limit xs. quoted_lit_at xs >>= λ lit. Ok (named_body (unnamed left) (body.Reserved s lit.0), lit.1)))

-- an expression at the end
with_quoted-law : {A B : Type 0} {r : ℕ → List Lexeme → Read A} (make : A → Expr → B) → Law true nothing r
    → Law true opens (λ limit xs. r limit xs >>= λ a. read_quoted limit a.1 >>= λ e. Ok (make a.0 e.0, e.1))
with_quoted-law make law =
    then-law law (λ a. then-law quoted-law (λ e. gives-law opens (make a e)) (λ e. blocks-gives opens (make a e)))
    (λ a. blocks-nothing opens (λ limit xs. read_quoted limit xs >>= λ e. Ok (make a e.0, e.1)))

implicit_body-law : Law true opens implicit_body
unfolding implicit_body
implicit_body-law = with_quoted-law (λ f e. named_body f.1 (body.Implicit f.0 e)) (kind_name-law nothing)

virtual_body-law : Law true opens virtual_body
unfolding virtual_body
virtual_body-law = with_quoted-law (λ f e. named_body f.1 (body.Virtual f.0 e)) (kind_name-law nothing)

optional_body-law : Law true opens optional_body
unfolding optional_body
optional_body-law = with_quoted-law (λ f e. named_body f.1 (body.Optional f.0 e)) (ref_name-law nothing)

checksum_body-law : Law true opens checksum_body
unfolding checksum_body
checksum_body-law = with_quoted-law (λ f e. named_body f.1 (body.Checksum f.0 e)) (simple_name-law nothing)

padding_body-law : Law true opens padding_body
unfolding padding_body
padding_body-law =
    then-law (simple_name-law nothing)
    (λ f. then-law quoted_lit-law
    (λ lit. then-law quoted-law (λ e. gives-law opens (named_body f.1 (body.Padding f.0 lit e))) (λ e. blocks-gives opens (named_body f.1 (body.Padding f.0 lit e))))
    (λ lit. blocks-start (starts-then (quoted-starts opens false refl) (λ e limit xs. Ok (named_body f.1 (body.Padding f.0 lit e), xs))) opens))
    (λ f. blocks-nothing opens (λ limit xs. quoted_lit_at xs >>= λ lit. read_quoted limit lit.1 >>= λ e. Ok (named_body f.1 (body.Padding f.0 lit.0 e.0), e.1)))

array_body-law : Law true opens array_body
unfolding array_body
array_body-law =
    then-law (ref_name-law nothing)
    (λ f. then-law (one-law pick_array nothing array-proper Unexpected refl)
    (λ how. then-law quoted-law (λ e. gives-law opens (named_body f.1 (array_of how.0 f.0 e))) (λ e. blocks-gives opens (named_body f.1 (array_of how.0 f.0 e))))
    (λ how. blocks-nothing opens (λ limit xs. read_quoted limit xs >>= λ e. Ok (named_body f.1 (array_of how.0 f.0 e.0), e.1))))
    (λ f. blocks-nothing opens (λ limit xs. one pick_array xs >>= λ how. read_quoted limit how.1 >>= λ e. Ok (named_body f.1 (array_of how.0.0 f.0 e.0), e.1)))

body-law : (left : Place) (w : FieldWord) → Law true opens (λ limit xs. body_from limit left w xs)
body-law left field_word.Simple = simple_body-law
body-law left field_word.Discriminator = discriminator_body-law
body-law left field_word.Const = const_body-law
body-law left field_word.Reserved = reserved_body-law left
body-law left field_word.Implicit = implicit_body-law
body-law left field_word.Virtual = virtual_body-law
body-law left field_word.Optional = optional_body-law
body-law left field_word.Checksum = checksum_body-law
body-law left field_word.Padding = padding_body-law
body-law left field_word.Array = array_body-law

-- ---- fields

abbrev made_field : Place → NamedBody → Option ByteOrder → Field
made_field left inner order = roll-Field (record { place = left; named = inner.named; name = inner.name; order = order; body = inner.body })

-- a bracket closes all that is open
pub closing : {A : Type 0} {go : Meaning → Bool} (go' : Meaning → Bool) (a : A) → go (Sign sign.RightBracket) ≡ false
    → Blocks go go' (λ limit xs. mark_at mark.RightBracket xs >>= λ right. Ok (a, right.1))
closing {go} go' a h = blocks-start (starts-then (mark-starts mark.RightBracket go false h) (λ right limit xs. Ok (a, xs))) go'

pub closing-law : {A : Type 0} (go : Meaning → Bool) (a : A) → Law true go (λ limit xs. mark_at mark.RightBracket xs >>= λ right. Ok (a, right.1))
closing-law go a = then-law (mark-law mark.RightBracket go refl) (λ right. gives-law go a) (λ right. blocks-gives go a)

field_from-law : (go : Meaning → Bool) (left : Place) (w : FieldWord) → Law true go (λ limit xs. field_from limit left w xs)
unfolding field_from
field_from-law go left w =
    then-law (body-law left w)
    (λ inner. then-law order-law (λ order. closing-law go (made_field left inner order)) (λ order. closing go (made_field left inner order) refl))
    (λ inner. blocks-then order-blocks (λ order. closing go (made_field left inner order) refl))

field-law : Law true nothing field_at
unfolding field_at
field-law =
    then-law (mark-law mark.LeftBracket nothing refl)
    (λ left. then-law (one-law pick_field nothing field-proper Unexpected refl) (λ w. field_from-law nothing left w.0) (λ w. blocks-nothing nothing (λ limit xs. field_from limit left w.0 xs)))
    (λ left. blocks-nothing nothing (λ limit xs. one pick_field xs >>= λ w. field_from limit left w.0.0 w.1))

field-starts : Starts bracket true field_at
unfolding field_at
field-starts = starts-then (mark-starts mark.LeftBracket bracket true refl) (λ left limit xs. one pick_field xs >>= λ w. field_from limit left w.0.0 w.1)

within-nothing : (go : Meaning → Bool) → Within nothing go
within-nothing go m h = absurd (cc)

bracket-nothing : Apart bracket nothing
bracket-nothing m h = refl

pub fields-law : Law false bracket fields_at
unfolding fields_at
fields-law = many-law bracket (mark-plain mark.LeftBracket) field_at field-starts nothing field-law bracket-nothing

pub fields-blocks : (go : Meaning → Bool) → Apart bracket go → Blocks go go fields_at
unfolding fields_at
fields-blocks go apart = blocks-many bracket (mark-plain mark.LeftBracket) field_at field-starts go (wider (within-nothing go) field-law) apart

-- ---- switches

abbrev made_case : Place → List Key → List ℕ × Place → List Field → Case
made_case left keys named fields = roll-Case (record { place = left; named = named.1; keys = keys; name = named.0; fields = fields })

case-law : Law true nothing case_at
unfolding case_at
case-law =
    then-law (mark-law mark.LeftBracket nothing refl)
    (λ left. then-law keys-law
    (λ keys. then-law (name-law nothing)
    (λ named. then-law fields-law (λ fields. closing-law nothing (made_case left keys named fields)) (λ fields. closing nothing (made_case left keys named fields) refl))
    (λ named. blocks-nothing nothing (λ limit xs. fields_at limit xs >>= λ fields. mark_at mark.RightBracket fields.1 >>= λ right. Ok (made_case left keys named fields.0, right.1))))
    (λ keys. blocks-start (starts-then (name-starts goes_key false (λ w. refl)) (λ named limit xs. fields_at limit xs >>= λ fields. mark_at mark.RightBracket fields.1 >>= λ right. Ok (made_case left keys named fields.0, right.1))) nothing))
    (λ left. blocks-nothing nothing (λ limit xs. keys_at xs >>= λ keys. name_at keys.1 >>= λ named. fields_at limit named.1 >>= λ fields. mark_at mark.RightBracket fields.1 >>= λ right. Ok (made_case left keys.0 named.0 fields.0, right.1)))

case-starts : Starts bracket true case_at
unfolding case_at
case-starts =
    starts-then (mark-starts mark.LeftBracket bracket true refl)
    (λ left limit xs. keys_at xs >>= λ keys. name_at keys.1 >>= λ named. fields_at limit named.1 >>= λ fields. mark_at mark.RightBracket fields.1 >>= λ right. Ok (made_case left keys.0 named.0 fields.0, right.1))

cases-law : Law false bracket cases_at
unfolding cases_at
cases-law = many-law bracket (mark-plain mark.LeftBracket) case_at case-starts nothing case-law bracket-nothing

cases-blocks : (go : Meaning → Bool) → Apart bracket go → Blocks go go cases_at
unfolding cases_at
cases-blocks go apart = blocks-many bracket (mark-plain mark.LeftBracket) case_at case-starts go (wider (within-nothing go) case-law) apart

bare_name-law : Law true nothing (λ limit xs. bare_name_at xs)
bare_name-law = then-law (name-law nothing) (λ p. gives-law nothing p.0) (λ p. blocks-gives nothing p.0)

comma-nothing : Apart comma nothing
comma-nothing m h = refl

pub bracket-comma : Apart bracket comma
bracket-comma (Sign sign.Comma) h = absurd (cc)
bracket-comma (Sign s) h = refl
bracket-comma (Number n) h = refl
bracket-comma (Taken w) h = refl
bracket-comma (Name w) h = refl

abbrev made_switch : Place → List (List ℕ) → List Case → Field
made_switch left names cases = roll-Field (record { place = left; named = left; name = []; order = None; body = body.Switch names cases })

switch_from-law : (go : Meaning → Bool) (left : Place) → Law true go (λ limit xs. switch_from limit left xs)
unfolding switch_from
switch_from-law go left =
    then-law (listed-law bare_name-law comma-nothing)
    (λ names. then-law cases-law (λ cases. closing-law go (made_switch left names cases)) (λ cases. closing go (made_switch left names cases) refl))
    (λ names. blocks-then (cases-blocks comma bracket-comma) (λ cases. closing go (made_switch left names cases) refl))

abbrev switch_word : List ℕ
switch_word = codes "typeSwitch"

pub switch-law : (go : Meaning → Bool) → Law true go switch_at
unfolding switch_at
switch-law go =
    then-law (mark-law mark.LeftBracket nothing refl)
    (λ left. then-law (word-law switch_word nothing (one-law (passing (is_word switch_word)) nothing switch-word-proper Unexpected refl))
    (λ w. switch_from-law go left)
    (λ w. blocks-nothing go (λ limit xs. switch_from limit left xs)))
    (λ left. blocks-nothing go (λ limit xs. word_at switch_word xs >>= λ w. switch_from limit left w.1))

pub switch-starts : (test : Meaning → Bool) (b : Bool) → test (Sign sign.LeftBracket) ≡ b → Starts test b switch_at
unfolding switch_at
switch-starts test b h = starts-then (mark-starts mark.LeftBracket test b h) (λ left limit xs. word_at switch_word xs >>= λ w. switch_from limit left w.1)

member_from-law : (left : Place) (w : MemberWord) → Law true nothing (λ limit xs. member_from limit left w xs)
member_from-law left (of_field w) = field_from-law nothing left w
member_from-law left of_switch = switch_from-law nothing left

member-law : Law true nothing member_at
unfolding member_at
member-law =
    then-law (mark-law mark.LeftBracket nothing refl)
    (λ left. then-law (one-law pick_member nothing member-proper Unexpected refl) (λ w. member_from-law left w.0) (λ w. blocks-nothing nothing (λ limit xs. member_from limit left w.0 xs)))
    (λ left. blocks-nothing nothing (λ limit xs. one pick_member xs >>= λ w. member_from limit left w.0.0 w.1))

member-starts : Starts bracket true member_at
unfolding member_at
member-starts = starts-then (mark-starts mark.LeftBracket bracket true refl) (λ left limit xs. one pick_member xs >>= λ w. member_from limit left w.0.0 w.1)

pub members-law : Law false bracket members_at
unfolding members_at
members-law = many-law bracket (mark-plain mark.LeftBracket) member_at member-starts nothing member-law bracket-nothing

pub members-blocks : (go : Meaning → Bool) → Apart bracket go → Blocks go go members_at
unfolding members_at
members-blocks go apart = blocks-many bracket (mark-plain mark.LeftBracket) member_at member-starts go (wider (within-nothing go) member-law) apart
