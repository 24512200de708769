-- By its words, and what it took, a run says something.
use Rattle.std.proofs.Common.{◌≡◌, ◌≢◌, ℕ, ◌⊎◌, true, false, List, [], ◌∷◌, length, take, codes, Option, Some, None, refl, inl, inr, sym, ap, ◌∙◌, subst, arith}
use Rattle.std.specs.Prelude.{slice_get}
use Rattle.std.specs.Str.{bytes_eq}
use Rattle.std.proofs.lemmas.Bool.{cases_eq, false≢true}
use Rattle.std.proofs.lemmas.Slice.Eq.{bytes_eq-Decides}
use Rattle.node_tree.specs.Bits.{bits_of}
use Rattle.mspec_tree.specs.declared.defs.Def.{Def}
use Rattle.mspec_tree.specs.declared.defs.Description.{Description}
use Rattle.mspec_meaning.proofs.TotalLaws.{some_stream}
use Rattle.script_replay.proofs.ReplyLaws.{some_replies}
use Rattle.host_engine.specs.declared.inputs.How.{How}
use Rattle.host_engine.specs.declared.words.FileCommand.{FileCommand}
use Rattle.host_engine.specs.declared.words.FileCommand.TheVariants.{Check, Print}
use Rattle.host_engine.specs.FirstForm.{FirstForm}
use Rattle.host_engine.specs.Texts.{Describes}
use Rattle.host_engine.specs.Lines.{lines_of}
use Rattle.host_engine.specs.Tool.{AreDecode, AreOverFile, AreReplay, ComesTo, Course, IsDecided, IsPositional, Names, Said, Taken, Tool, WordsRefused, FileFault, TextRefused, NotBuilt, TypeRefused, Values, Answers, Described, command_word, input_limit, said}
use Rattle.host_engine.proofs.FormLaws.{found_def, form_or_not, one_plain}
use Rattle.host_engine.proofs.FormReads.{form_reads}
use Rattle.host_engine.proofs.TextLaws.{described_or_not}

-- ---- words

same_or_not : (a b : List ℕ) → (a ≡ b) ⊎ (a ≢ b)
same_or_not a b =
    elim (bytes_eq a b) as (λ v. bytes_eq a b ≡ v → (a ≡ b) ⊎ (a ≢ b)) [
      | true ↦ λ e. inl ((bytes_eq-Decides a b).0 e)
      | false ↦ λ e. inr (λ same. false≢true (sym e ∙ (bytes_eq-Decides a b).1 same))
    ] refl

positional_or_not : (word : List ℕ) → IsPositional word ⊎ (IsPositional word → ⊥)
positional_or_not [] = inr (λ h. h)
positional_or_not (b ∷ bs) = elim (cases_eq b 45) [ inl dash ↦ inr (λ other. other dash) | inr other ↦ inl other ]

abbrev DecodeOrNot : List (List ℕ) → Type 0
DecodeOrNot words =
    ((name : List ℕ) × (kind : List ℕ) × AreDecode words name kind) ⊎ ((name kind : List ℕ) → AreDecode words name kind → ⊥)

head_is : (a b c name kind : List ℕ) → a ∷ b ∷ c ∷ [] ≡ codes "decode" ∷ name ∷ kind ∷ [] → (a ≡ codes "decode") × (b ≡ name) × (c ≡ kind)
head_is a b c name kind e = (cc, cc, cc)

three_words : (a b c : List ℕ) → DecodeOrNot (a ∷ b ∷ c ∷ [])
three_words a b c =
    elim (same_or_not a (codes "decode")) [
      | inr other ↦ inr (λ name kind decode. other (head_is a b c name kind decode.spelled).0)
      | inl command ↦ elim (positional_or_not b) [
        | inr other ↦ inr (λ name kind decode. other (subst IsPositional (sym (head_is a b c name kind decode.spelled).1) decode.file_word))
        | inl file ↦ elim (positional_or_not c) [
          | inr other ↦ inr (λ name kind decode. other (subst IsPositional (sym (head_is a b c name kind decode.spelled).2) decode.type_word))
          | inl type ↦ inl (b, c, record { spelled = ap (λ word. word ∷ b ∷ c ∷ []) command; file_word = file; type_word = type })
        ]
      ]
    ]

decode_or_not : (words : List (List ℕ)) → DecodeOrNot words
decode_or_not [] = inr (λ name kind decode. absurd (omega (arith, ap length decode.spelled)))
decode_or_not (a ∷ []) = inr (λ name kind decode. absurd (omega (arith, ap length decode.spelled)))
decode_or_not (a ∷ b ∷ []) = inr (λ name kind decode. absurd (omega (arith, ap length decode.spelled)))
decode_or_not (a ∷ b ∷ c ∷ []) = three_words a b c
decode_or_not (a ∷ b ∷ c ∷ d ∷ more) = inr (λ name kind decode. absurd (omega (arith, ap length decode.spelled)))

replay_or_not : (words : List (List ℕ)) → AreReplay words ⊎ (AreReplay words → ⊥)
replay_or_not [] = inr (λ e. absurd (omega (arith, ap length e)))
replay_or_not (a ∷ []) =
    elim (same_or_not a (codes "replay")) [
      | inl same ↦ inl (ap (λ word. word ∷ []) same)
      | inr other ↦ inr (λ e. other (let h : a ∷ [] ≡ codes "replay" ∷ [] = e in cc))
    ]
replay_or_not (a ∷ b ∷ more) = inr (λ e. absurd (omega (arith, ap length e)))

over_is : (a b : List ℕ) (command : FileCommand) (name : List ℕ) → a ∷ b ∷ [] ≡ command_word command ∷ name ∷ [] → (a ≡ command_word command) × (b ≡ name)
over_is a b command name e = (cc, cc)

neither : (word : List ℕ) → word ≢ command_word Check → word ≢ command_word Print → (command : FileCommand) → word ≡ command_word command → ⊥
neither word no_check no_print Check e = no_check e
neither word no_check no_print Print e = no_print e

-- the word names a command over a file, or none
command_or_not : (word : List ℕ) → ((command : FileCommand) × (word ≡ command_word command)) ⊎ ((command : FileCommand) → word ≡ command_word command → ⊥)
command_or_not word =
    elim (same_or_not word (command_word Check)) [
      | inl check ↦ inl (Check, check)
      | inr no_check ↦ elim (same_or_not word (command_word Print)) [ inl print ↦ inl (Print, print) | inr no_print ↦ inr (neither word no_check no_print) ]
    ]

abbrev OverFileOrNot : List (List ℕ) → Type 0
OverFileOrNot words =
    ((command : FileCommand) × (name : List ℕ) × AreOverFile words command name)
    ⊎ ((command : FileCommand) (name : List ℕ) → AreOverFile words command name → ⊥)

two_words : (a b : List ℕ) → OverFileOrNot (a ∷ b ∷ [])
two_words a b =
    elim (command_or_not a) [
      | inr none ↦ inr (λ command name over. none command (over_is a b command name over.spelled).0)
      | inl found ↦ elim (positional_or_not b) [
        | inr other ↦ inr (λ command name over. other (subst IsPositional (sym (over_is a b command name over.spelled).1) over.file_word))
        | inl file ↦ inl (found.0, b, record { spelled = ap (λ word. word ∷ b ∷ []) found.1; file_word = file })
      ]
    ]

over_file_or_not : (words : List (List ℕ)) → OverFileOrNot words
over_file_or_not [] = inr (λ command name over. absurd (omega (arith, ap length over.spelled)))
over_file_or_not (a ∷ []) = inr (λ command name over. absurd (omega (arith, ap length over.spelled)))
over_file_or_not (a ∷ b ∷ []) = two_words a b
over_file_or_not (a ∷ b ∷ c ∷ more) = inr (λ command name over. absurd (omega (arith, ap length over.spelled)))

-- ---- descriptions

named_or_not : (text : List ℕ) (d : Description) (kind : List ℕ) → FirstForm text d → ((def : ℕ) × Names d def kind) ⊎ ((def : ℕ) → Names d def kind → ⊥)
named_or_not text d kind form =
    let one = one_plain d form.1 in
    elim (same_or_not one.def.name kind) [
      | inl same ↦ inl (0, (one.def, ap (λ (defs : List Def). slice_get defs 0) one.one, same))
      | inr other ↦ inr (λ def named.
          let found = (found_def d one def named.0 named.1).1 in
          other (ap (λ (def : Def). def.name) found ∙ named.2))
    ]

-- ---- runs

abbrev SomeCourse : (words : List (List ℕ)) → Taken → Type 0
SomeCourse words t = (course : Course) × ComesTo words t course

some_values : (words : List (List ℕ)) (name kind text bytes : List ℕ) (how : How) (d : Description) (def : ℕ) → AreDecode words name kind → FirstForm text d → Names d def kind → SomeCourse words (record { file = Some text; bytes = bytes; how = Some how })
some_values words name kind text bytes how d def decode form named =
    let s = some_stream d def [] (form_reads text d def kind form named) 0 (bits_of (take input_limit bytes)) in
    (Values d def s.0 s.1, (name, kind, text, decode, refl, form, named, s.2))

-- what the tree of a file leads to, where the input was left
some_formed : (words : List (List ℕ)) (name kind text bytes : List ℕ) (how : How) (d : Description) → AreDecode words name kind → Describes text d → SomeCourse words (record { file = Some text; bytes = bytes; how = Some how })
some_formed words name kind text bytes how d decode tree =
    elim (form_or_not d) [
      | inr out ↦ (NotBuilt, (name, kind, text, d, decode, refl, tree, out))
      | inl form ↦ elim (named_or_not text d kind (tree, form)) [
        | inr none ↦ (TypeRefused, (name, kind, text, d, decode, refl, (tree, form), none))
        | inl found ↦ some_values words name kind text bytes how d found.0 decode (tree, form) found.1
      ]
    ]

some_decoding : (words : List (List ℕ)) (name kind : List ℕ) (file : Option (List ℕ)) (bytes : List ℕ) (how : How) → AreDecode words name kind → SomeCourse words (record { file = file; bytes = bytes; how = Some how })
some_decoding words name kind None bytes how decode = (FileFault, (name, inl (kind, decode), refl))
some_decoding words name kind (Some text) bytes how decode =
    elim (described_or_not text) [
      | inr none ↦ (TextRefused none.0 none.1, (name, text, inl (kind, decode), refl, none.2))
      | inl tree ↦ some_formed words name kind text bytes how tree.0 decode tree.1
    ]

-- a command over a file comes to something, however the input was left
abbrev SomeAnswer : (words : List (List ℕ)) → Option (List ℕ) → Type 0
SomeAnswer words file =
    (course : Course)
    × ((bytes : List ℕ) (how : Option How) → ComesTo words (record { file = file; bytes = bytes; how = how }) course)
    × IsDecided None course

some_answer : (words : List (List ℕ)) (command : FileCommand) (name : List ℕ) (file : Option (List ℕ)) → AreOverFile words command name → SomeAnswer words file
some_answer words command name None over = (FileFault, λ bytes how. (name, inr (command, over), refl), tt)
some_answer words command name (Some text) over =
    elim (described_or_not text) [
      | inr none ↦ (TextRefused none.0 none.1, λ bytes how. (name, text, inr (command, over), refl, none.2), tt)
      | inl found ↦ (Described command found.0, λ bytes how. (name, text, over, refl, found.1), tt)
    ]

some_other : (words : List (List ℕ)) (file : Option (List ℕ)) (bytes : List ℕ) (how : How) → ((name kind : List ℕ) → AreDecode words name kind → ⊥) → SomeCourse words (record { file = file; bytes = bytes; how = Some how })
some_other words file bytes how none =
    elim (replay_or_not words) [
      | inl replay ↦ let s = some_replies 1 None (lines_of (Some how) (take input_limit bytes)) in (Answers s.0 s.1, (replay, s.2))
      | inr other ↦ elim (over_file_or_not words) [
        | inl over ↦ let s = some_answer words over.0 over.1 file over.2 in (s.0, s.1 bytes (Some how))
        | inr no_other ↦ (WordsRefused, (none, other, no_other))
      ]
    ]

some_course : (words : List (List ℕ)) (file : Option (List ℕ)) (bytes : List ℕ) (how : How) → SomeCourse words (record { file = file; bytes = bytes; how = Some how })
some_course words file bytes how =
    elim (decode_or_not words) [
      | inl decode ↦ some_decoding words decode.0 decode.1 file bytes how decode.2
      | inr none ↦ some_other words file bytes how none
    ]

some_by : (words : List (List ℕ)) (file : Option (List ℕ)) (bytes : List ℕ) (how : How) → (outcome : Said) × Tool words (record { file = file; bytes = bytes; how = Some how }) outcome
some_by words file bytes how =
    let some = some_course words file bytes how in
    (said (Some how) some.0, (some.0, some.1, tt, refl))

pub some_said : (words : List (List ℕ)) (t : Taken) (left : How) → t.how ≡ Some left → (outcome : Said) × Tool words t outcome
some_said words t left e =
    subst (λ (how : Option How). (outcome : Said) × Tool words (record { file = t.file; bytes = t.bytes; how = how }) outcome) (sym e)
    (some_by words t.file t.bytes left)

-- ---- an input that is left alone

-- the words and the file lead to values of a type
abbrev LeadToValues : (words : List (List ℕ)) → Option (List ℕ) → Type 0
LeadToValues words file =
    (name : List ℕ) × (kind : List ℕ) × (text : List ℕ) × (d : Description) × (def : ℕ) × AreDecode words name kind × (file ≡ Some text) × FirstForm text d × Names d def kind

abbrev SaidAlone : (words : List (List ℕ)) → Option (List ℕ) → (bytes : List ℕ) → Type 0
SaidAlone words file bytes = (outcome : Said) × Tool words (record { file = file; bytes = bytes; how = None }) outcome

alone_formed : (words : List (List ℕ)) (name kind text bytes : List ℕ) (d : Description) → AreDecode words name kind → Describes text d → (LeadToValues words (Some text) → ⊥) → SaidAlone words (Some text) bytes
alone_formed words name kind text bytes d decode tree none =
    elim (form_or_not d) [
      | inr out ↦ (said None NotBuilt, (NotBuilt, (name, kind, text, d, decode, refl, tree, out), tt, refl))
      | inl form ↦ elim (named_or_not text d kind (tree, form)) [
        | inr unnamed ↦ (said None TypeRefused, (TypeRefused, (name, kind, text, d, decode, refl, (tree, form), unnamed), tt, refl))
        | inl found ↦ absurd (none (name, kind, text, d, found.0, decode, refl, (tree, form), found.1))
      ]
    ]

alone_decoding : (words : List (List ℕ)) (name kind : List ℕ) (file : Option (List ℕ)) (bytes : List ℕ) → AreDecode words name kind → (LeadToValues words file → ⊥) → SaidAlone words file bytes
alone_decoding words name kind None bytes decode none = (said None FileFault, (FileFault, (name, inl (kind, decode), refl), tt, refl))
alone_decoding words name kind (Some text) bytes decode none =
    elim (described_or_not text) [
      | inr fault ↦ (said None (TextRefused fault.0 fault.1), (TextRefused fault.0 fault.1, (name, text, inl (kind, decode), refl, fault.2), tt, refl))
      | inl tree ↦ alone_formed words name kind text bytes tree.0 decode tree.1 none
    ]

alone_other : (words : List (List ℕ)) (file : Option (List ℕ)) (bytes : List ℕ) → (AreReplay words → ⊥) → ((name kind : List ℕ) → AreDecode words name kind → ⊥) → SaidAlone words file bytes
alone_other words file bytes other refused =
    elim (over_file_or_not words) [
      | inl over ↦ let s = some_answer words over.0 over.1 file over.2 in (said None s.0, (s.0, s.1 bytes None, s.2, refl))
      | inr no_other ↦ (said None WordsRefused, (WordsRefused, (refused, other, no_other), tt, refl))
    ]

alone_by : (words : List (List ℕ)) (file : Option (List ℕ)) (bytes : List ℕ) → (AreReplay words → ⊥) → (LeadToValues words file → ⊥) → SaidAlone words file bytes
alone_by words file bytes other none =
    elim (decode_or_not words) [
      | inl decode ↦ alone_decoding words decode.0 decode.1 file bytes decode.2 none
      | inr refused ↦ alone_other words file bytes other refused
    ]

pub said_alone : (words : List (List ℕ)) (t : Taken) → t.how ≡ None → (AreReplay words → ⊥)
    → ((name kind text : List ℕ) (d : Description) (def : ℕ) → AreDecode words name kind → t.file ≡ Some text → FirstForm text d → Names d def kind → ⊥) → (outcome : Said) × Tool words t outcome
said_alone words t e other none =
    subst (λ (how : Option How). (outcome : Said) × Tool words (record { file = t.file; bytes = t.bytes; how = how }) outcome) (sym e)
    (alone_by words t.file t.bytes other (λ h. none h.0 h.1 h.2 h.3 h.4 h.5 h.6 h.7 h.8))
