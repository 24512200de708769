-- Printed literals, types, parameters and byte orders are read back.
use Rattle.std.proofs.Common.{◌≡◌, ℕ, Bool, true, false, cond, not, ◌||◌, List, [], ◌∷◌, ◌++◌, map, Option, Some, None, refl, sym, ap, ◌∙◌, subst}
use Rattle.std.specs.Prelude.{codes, nat_lt}
use Rattle.std.specs.List.{list_all}
use Rattle.std.specs.Str.{bytes_eq}
use Rattle.std.proofs.lemmas.Slice.Eq.{bytes_eq-Decides}
use Rattle.mspec_tree.specs.declared.words.Lit.{Lit}
use Rattle.mspec_tree.specs.declared.words.Lit.TheVariants.{Num, Flag}
use Rattle.mspec_tree.specs.declared.words.Key.{Key}
use Rattle.mspec_tree.specs.declared.words.Key.TheVariants as key
use Rattle.mspec_tree.specs.declared.words.ByteOrder.{ByteOrder}
use Rattle.mspec_tree.specs.declared.words.ByteOrder.TheVariants.{Big, Little}
use Rattle.mspec_tree.specs.declared.words.Simple.{Simple}
use Rattle.mspec_tree.specs.declared.words.Simple.TheVariants.{Bit, Byte, Uint, Int, Float}
use Rattle.mspec_tree.specs.declared.exprs.Ref.{Ref}
use Rattle.mspec_tree.specs.declared.exprs.Ref.TheVariants.{Plain, Named}
use Rattle.mspec_tree.specs.declared.defs.Param.{Param}
use Rattle.mspec_tree.specs.declared.defs.Constant.{Constant}
use Rattle.mspec_tree.specs.Form.{is_constant, is_kind, is_key, is_lit, is_name, is_one_of, is_param, is_simple, is_spelt, is_type_name, taken_words}
use Rattle.mspec_lexer.specs.declared.tokens.TokenKind.TheVariants as token
use Rattle.mspec_lexer.specs.Lexemes.{Lexeme}
use Rattle.mspec_lexer.specs.Tokens.{Piece}
use Rattle.mspec_grammar.specs.Meanings.{Meaning, meaning, meaning_of, Name, name_or, word_of}
use Rattle.mspec_grammar.specs.Parts.{IsNamed, IsLit, IsQuotedLit, IsKey, IsSimple, IsTypeName, IsKind, IsParam, IsParams, IsOrder, IsAttributes, IsConstant, width, none, named, number, negative, yes, no, quoted, quoted_any, literal, constant, bit, byte, uint, int, float, plain, param, some, given}
use Rattle.mspec_printer.specs.Alike.{start, unplaced_constant, unplaced_param, unplaced_ref}
use Rattle.mspec_printer.specs.Printed as printed
use Rattle.mspec_printer.proofs.Spelling.{before_gap_alone, before_last, both, done, exactly, gap, last_gap, Like, Reads, reads-listed, Spells, splits, word}

-- ---- names

neither : (v w : Bool) → v || w ≡ false → (v ≡ false) × (w ≡ false)
neither true w h = absurd (cc)
neither false w h = (refl, h)

pub negated : (v : Bool) → not v ≡ true → v ≡ false
negated true h = absurd (cc)
negated false h = refl

unequal_by : (one bytes : List ℕ) (v : Bool) → bytes_eq bytes one ≡ v → bytes_eq one bytes ≡ false → v ≡ false
unequal_by one bytes true e h =
    let same : bytes ≡ one = (bytes_eq-Decides bytes one).0 e in
    let back : bytes_eq one bytes ≡ true = (bytes_eq-Decides one bytes).1 (sym same) in
    absurd (cc)
unequal_by one bytes false e h = refl

pub unequal : (one bytes : List ℕ) → bytes_eq one bytes ≡ false → bytes_eq bytes one ≡ false
unequal one bytes h = unequal_by one bytes (bytes_eq bytes one) refl h

-- none of the words that no name may be
no_word : (bytes : List ℕ) → is_one_of taken_words bytes ≡ false → word_of bytes ≡ None
unfolding word_of
no_word bytes h =
    let bit = neither _ _ h in
    let byte = neither _ _ bit.1 in
    let uint = neither _ _ byte.1 in
    let int = neither _ _ uint.1 in
    let float = neither _ _ int.1 in
    let yes = neither _ _ float.1 in
    let no = neither _ _ yes.1 in
    let null = neither _ _ no.1 in
    let count = neither _ _ null.1 in
    let cast = neither _ _ count.1 in
    let position = neither _ _ cast.1 in
    let len = neither _ _ position.1 in
    let item = neither _ _ len.1 in
    let total = neither _ _ item.1 in
    let xor = neither _ _ total.1 in
    rw (
      unequal (codes "bit") bytes bit.0,
      unequal (codes "byte") bytes byte.0,
      unequal (codes "uint") bytes uint.0,
      unequal (codes "int") bytes int.0,
      unequal (codes "float") bytes float.0,
      unequal (codes "true") bytes yes.0,
      unequal (codes "false") bytes no.0,
      unequal (codes "null") bytes null.0,
      unequal (codes "curPos") bytes position.0,
      unequal (codes "lastItem") bytes item.0,
      unequal (codes "COUNT") bytes count.0,
      unequal (codes "CAST") bytes cast.0,
      unequal (codes "lengthInBytes") bytes len.0,
      unequal (codes "SUM_BYTES") bytes total.0,
      unequal (codes "XOR_BYTES") bytes xor.0,
    )
    refl

pub is_plain : (bytes : List ℕ) → is_name bytes ≡ true → meaning_of token.Name bytes ≡ Name bytes
is_plain bytes h =
    let tests = both (is_spelt bytes) _ h in ap (name_or bytes) (no_word bytes (negated _ tests.1))

pub means_name : {m : Meaning} (bytes : List ℕ) → is_name bytes ≡ true → m ≡ meaning_of token.Name bytes → m ≡ Name bytes
means_name bytes h means = means ∙ is_plain bytes h

-- ---- literals

pub lit-reads : (value : Lit) {from rest : List Lexeme} → Spells from (printed.lit value) rest → IsLit from value rest
unfolding word_of
lit-reads (Num true n) (word minus (word means done)) = negative minus means
lit-reads (Num false n) (word means done) = number means
lit-reads (Flag true) (word means done) = yes means
lit-reads (Flag false) (word means done) = no means

pub quoted_lit-reads : (value : Lit) {from rest : List Lexeme} → Spells from (printed.quoted (printed.lit value)) rest → IsQuotedLit from value rest
quoted_lit-reads value (word left s) =
    let inner = before_last (printed.lit value) _ _ s in quoted left (lit-reads value inner.first) inner.means

quoted_lit_by : (value : Lit) {from rest : List Lexeme} → Spells from (printed.quoted (printed.lit value)) rest → Like IsQuotedLit (λ l. l) value from rest
quoted_lit_by value s = record { value = value; reads = quoted_lit-reads value s; alike = refl }

pub reads-quoted_lit : (value : Lit) → is_lit value ≡ true → Reads IsQuotedLit (λ l. l) (λ l. printed.quoted (printed.lit l)) value
reads-quoted_lit value h = record { by = quoted_lit_by value }

pub key-reads : (k : Key) → is_key k ≡ true → {from rest : List Lexeme} → Spells from (printed.quoted (printed.key_in_quotes k)) rest → IsKey from k rest
key-reads key.Any h (word left (word means (word right done))) = quoted_any left means right
key-reads (key.Lit value) h s = literal (quoted_lit-reads value s)
key-reads (key.Constant name) h (word left (word means (word right done))) = constant left (means_name name h means) right

key_by : (k : Key) → is_key k ≡ true → {from rest : List Lexeme} → Spells from (printed.quoted (printed.key_in_quotes k)) rest → Like IsKey (λ l. l) k from rest
key_by k h s = record { value = k; reads = key-reads k h s; alike = refl }

pub reads-key : (k : Key) → is_key k ≡ true → Reads IsKey (λ l. l) (λ l. printed.quoted (printed.key_in_quotes l)) k
reads-key k h = record { by = key_by k h }

named_by : (name : List ℕ) → is_name name ≡ true → {from rest : List Lexeme} → Spells from (printed.word name) rest → Like IsNamed (λ l. l) name from rest
named_by name h (word means done) = record { value = name; reads = named (means_name name h means); alike = refl }

pub reads-named : (name : List ℕ) → is_name name ≡ true → Reads IsNamed (λ l. l) printed.word name
reads-named name h = record { by = named_by name h }

-- ---- types

width_by : (n : ℕ) (v : Bool) → nat_lt n 256 ≡ v → v ≡ true → cond v n 255 ≡ n
width_by n true e h = refl
width_by n false e h = absurd (cc)

as_wide : (n : ℕ) → nat_lt n 256 ≡ true → width n ≡ n
as_wide n h = width_by n (nat_lt n 256) refl h

pub simple-reads : (s : Simple) → is_simple s ≡ true → {from rest : List Lexeme} → Spells from (printed.simple s) rest → IsSimple from s rest
unfolding word_of
simple-reads Bit h (word means done) = bit means
simple-reads Byte h (word means done) = byte means
simple-reads (Uint n) h {rest} (word {x} means (gap (word {x = y} wide done))) =
    subst (λ k. IsSimple (x ∷ y ∷ rest) (Uint k) rest) (as_wide n h) (uint means wide)
simple-reads (Int n) h {rest} (word {x} means (gap (word {x = y} wide done))) =
    subst (λ k. IsSimple (x ∷ y ∷ rest) (Int k) rest) (as_wide n h) (int means wide)
simple-reads (Float n) h {rest} (word {x} means (gap (word {x = y} wide done))) =
    subst (λ k. IsSimple (x ∷ y ∷ rest) (Float k) rest) (as_wide n h) (float means wide)

pub type_name : (x : Lexeme) (name : List ℕ) → is_type_name name ≡ true → meaning x ≡ meaning_of token.Name name → IsTypeName x name
type_name x name h means =
    let tests = both (is_name name) _ h in (means_name name tests.0 means, negated _ tests.1)

pub kind-reads : (r : Ref) → is_kind r ≡ true → {from rest : List Lexeme} → Spells from (printed.ref r) rest → Like IsKind unplaced_ref (unplaced_ref r) from rest
kind-reads (Plain s) h spelt = record { value = Plain s; reads = plain (simple-reads s h spelt); alike = refl }
kind-reads (Named place name []) h (word {x} means done) =
    record { value = Named x.place name []; reads = named (type_name x name h means); alike = refl }
kind-reads (Named place name (arg ∷ args)) h spelt = absurd (cc)

-- ---- parameters and byte orders

abbrev at_start : Ref → List ℕ → Param
at_start kind name = record { place = start; kind = kind; name = name }

param_by : (p : Param) → is_param p ≡ true → {from rest : List Lexeme} → Spells from (printed.param p) rest → Like IsParam unplaced_param (unplaced_param p) from rest
param_by p h s =
    let tests = both (is_kind p.kind) _ h in
    let parts = last_gap (printed.ref p.kind) _ _ _ s in
    let kind = kind-reads p.kind tests.0 parts.first in
    record {
      value = record { place = parts.x.place; kind = kind.value; name = p.name };
      reads = param kind.reads (means_name p.name tests.1 parts.means);
      alike = ap (λ r. at_start r p.name) kind.alike;
    }

pub reads-param : (p : Param) → is_param p ≡ true → Reads IsParam unplaced_param printed.param p
reads-param p h = record { by = param_by p h }

pub params-read : (ps : List Param) → list_all is_param ps ≡ true → {from rest : List Lexeme} → Spells from (printed.unless_empty (λ some. printed.in_parentheses (printed.listed (map printed.param some))) ps) rest → Like IsParams (map unplaced_param) (map unplaced_param ps) from rest
params-read [] h done = record { value = []; reads = none; alike = refl }
params-read (p ∷ ps) h (word left s) =
    let tests = both (is_param p) _ h in
    let inner = before_last (printed.listed (map printed.param (p ∷ ps))) _ _ s in
    let params = reads-listed IsParam unplaced_param printed.param is_param reads-param p ps tests.0 tests.1 inner.first in
    record { value = params.value; reads = some left params.reads inner.means; alike = params.alike }

pub order-reads : (order : Option ByteOrder) {from rest : List Lexeme} → Spells from (printed.order order) rest → IsOrder from order rest
unfolding word_of
order-reads None done = none
order-reads (Some Big) (gap (word byte_order (word equal (word left (word means (word right done)))))) =
    given byte_order equal left means right
order-reads (Some Little) (gap (word byte_order (word equal (word left (word means (word right done)))))) =
    given byte_order equal left means right

-- ---- constants

attributes-read : (values : List Lit) → list_all is_lit values ≡ true → {from rest : List Lexeme} → Spells from (printed.attributes values) rest → IsAttributes from values rest
attributes-read [] h done = none
attributes-read (value ∷ values) h (gap (word left s)) =
    let tests = both (is_lit value) _ h in
    let inner = before_last (printed.listed (map (λ l. printed.quoted (printed.lit l)) (value ∷ values))) _ _ s in
    some left (exactly (value ∷ values) (reads-listed IsQuotedLit (λ l. l) (λ l. printed.quoted (printed.lit l)) is_lit reads-quoted_lit value values tests.0 tests.1 inner.first)) inner.means

abbrev constant_words : Constant → List Piece
constant_words c = printed.spaced (printed.quoted (printed.lit c.value) ∷ printed.word c.name ∷ [])

constant_by : (c : Constant) → is_constant c ≡ true → {from rest : List Lexeme} → Spells from (printed.constant c) rest → Like IsConstant unplaced_constant (unplaced_constant c) from rest
constant_by c h (gap (gap (word left s))) =
    let tests = both (is_lit c.value) _ h in
    let others = both (is_name c.name) _ tests.1 in
    let inner = before_last (constant_words c ++ printed.attributes c.attrs) _ _ (before_gap_alone _ _ s) in
    let parts = splits (constant_words c) (printed.attributes c.attrs) inner.first in
    let named = last_gap (printed.quoted (printed.lit c.value)) _ _ _ parts.first in
    record {
      value = record { place = named.x.place; value = c.value; name = c.name; attrs = c.attrs };
      reads = constant left (quoted_lit-reads c.value named.first) (means_name c.name others.0 named.means)
          (attributes-read c.attrs others.1 parts.second) inner.means;
      alike = refl;
    }

pub reads-constant : (c : Constant) → is_constant c ≡ true → Reads IsConstant unplaced_constant printed.constant c
reads-constant c h = record { by = constant_by c h }
