use Rattle.std.proofs.Common.{◌≡◌, ◌≢◌, ℕ, ◌⊎◌, true, false, List, Option, Some, inl, inr, ap, sym, ◌∙◌, arith}
use Rattle.std.proofs.lemmas.Bool.{cases_eq}
use Rattle.link_io.specs.Streams.{ShelfSeen, after_taking}
use Rattle.mspec_tree.specs.declared.defs.Description.{Description}
use Rattle.mspec_tree.specs.declared.words.Place.{Place}
use Rattle.host_engine.specs.declared.describing.TextWhy.{TextWhy}
use Rattle.host_engine.specs.declared.words.FileCommand.{FileCommand}
use Rattle.host_engine.specs.declared.words.FileCommand.TheVariants.{Check, Print}
use Rattle.host_engine.proofs.TextLaws.{never_both}
use Rattle.host_engine.specs.FirstForm.{is_first_form}
use Rattle.host_engine.specs.Runs.{FileSeen}
use Rattle.host_engine.specs.Texts.{Describes, IsRefusedText, text_why_text}
use Rattle.host_engine.specs.Tool.{AreDecode, AreOverFile, ComesTo, Course, NamesFile, TextRefused, NotBuilt, Said, Taken, description_refused, said}
use Rattle.host_engine.proofs.StatusLemmas.{words_at_2, only_words, fault_at_3, rose_at_none, none_at_rise, only_fault, rose_at_4, IsDescribed, ended_at, is_end, over_at_13, described_by, described_not_7, refused_at_1, refused_at_12, seen_of}
use Rattle.host_engine.proofs.NoRefusal.{no_status_6}
use Rattle.host_engine.proofs.Complete.{answered_well, complete, refused_text, script_well, values_well}
use Rattle.host_engine.proofs.EndLemmas.{concluded, early_of, lacking_of}
use Rattle.host_engine.proofs.EndStatus.{cut_at_7, well_at_0}
use Rattle.host_engine.proofs.ScriptStatus.{line_at_10}
use Rattle.host_engine.proofs.tool.tool_main.Goals as goal

pub returns-clause-run : goal.returns-clause-run
returns-clause-run g c =
    concluded c.args.words.now g.F.Shelf.counts_with _ _ _ _ _ _ _ _ _ c.deref.result.now c.run-ran.result c.conclude.result c.new-gathered.ensures.items c.deref.ensures.value c.run-ran.ensures.run c.conclude.ensures.done c.conclude.ensures.cut
    (λ e. let f = c.conclude.ensures.failed e in (f.0, ap g.K.Sink.seen f.1))

pub returns-clause-untouched : goal.returns-clause-untouched
returns-clause-untouched g c =
    λ (early : _). early_of c.run-ran.result c.conclude.result _ (λ well. (c.conclude.ensures.done well).0) early c.run-ran.ensures.untouched

pub returns-clause-no_such_file : goal.returns-clause-no_such_file
returns-clause-no_such_file g c =
    λ (lacks : _).
    let failed = c.run-ran.ensures.lacking lacks in
    (failed.0, lacking_of c.run-ran.result c.conclude.result (λ well. (c.conclude.ensures.done well).0) failed.1)

pub returns-clause-words_refused : goal.returns-clause-words_refused
returns-clause-words_refused g c =
    λ (two : _).
    let s = (returns-clause-run g c).said (λ e. absurd (omega (arith, e, two))) (λ e. absurd (omega (arith, e, two))) in
    words_at_2 c.args.words.now s.0 s.3.0 s.3.1 (ap (λ (o : Said). o.status) (sym s.3.3) ∙ sym s.5 ∙ two)

pub returns-clause-only_commands : goal.returns-clause-only_commands
returns-clause-only_commands g c =
    λ (none : _).
    elim (cases_eq c.conclude.result 5) [
      | inl five ↦ inr (inl five)
      | inr well ↦ elim (cases_eq c.conclude.result 8) [
        | inl eight ↦ inr (inr eight)
        | inr enough ↦
            let s = (returns-clause-run g c).said well enough in
            inl (s.5 ∙ ap (λ (o : Said). o.status) s.3.3 ∙ only_words c.args.words.now s.0 s.3.0 s.3.1 none)
      ]
    ]

-- what was seen of the file of a description that was refused
refused_seen : (words : List (List ℕ)) (before after : ShelfSeen) (t : Taken) (outcome : Said) (held held' : Option (List ℕ)) → held' ≡ after_taking outcome.text held → ((name : List ℕ) → NamesFile words name → FileSeen name before after t.file) → ((place : Place) × (why : TextWhy) × ComesTo words t (TextRefused place why) × (outcome ≡ description_refused place (text_why_text why))) ⊎ ComesTo words t NotBuilt
    → (name text : List ℕ) × NamesFile words name × FileSeen name before after (Some text)
    × (((place : Place) × (why : TextWhy) × IsRefusedText text place why
    × ((d : Description) → Describes text d → ⊥)
    × (held' ≡ after_taking (description_refused place (text_why_text why)).text held))
    ⊎ ((kind : List ℕ) × (d : Description) × AreDecode words name kind × Describes text d × (is_first_form d ≡ false)))
refused_seen words before after t outcome held held' put named (inl f) =
    let c = f.2 in
    let said_so = put ∙ ap (λ (o : Said). after_taking o.text held) f.3 in
    let none : (d : Description) → Describes c.1 d → ⊥ = λ d described. never_both c.1 d f.0 f.1 described c.4 in
    (c.0, c.1, c.2, seen_of c.0 before after t.file c.1 c.3 (named c.0 c.2), inl (f.0, f.1, c.4, none, said_so))
refused_seen words before after t outcome held held' put named (inr c) =
    let names : NamesFile words c.0 = inl (c.1, c.4) in
    (c.0, c.2, names, seen_of c.0 before after t.file c.2 c.5 (named c.0 names), inr (c.1, c.3, c.4, c.6, c.7))

pub returns-clause-description_refused : goal.returns-clause-description_refused
returns-clause-description_refused g c =
    λ (one : _).
    let s = (returns-clause-run g c).said (λ e. absurd (omega (arith, e, one))) (λ e. absurd (omega (arith, e, one))) in
    refused_seen c.args.words.now (g.F.Shelf.seen c.args.files.now) (g.F.Shelf.seen c.run-ran.new.files) s.0 (said s.0.how s.3.0) _ _ (s.4 ∙ ap (λ (o : Said). after_taking o.text (g.K.Sink.seen c.args.out.now).held) s.3.3) s.2.from_files.named
    (refused_at_1 c.args.words.now s.0 s.3.0 s.3.1 (ap (λ (o : Said). o.status) (sym s.3.3) ∙ sym s.5 ∙ one))

pub returns-clause-file_fault : goal.returns-clause-file_fault
returns-clause-file_fault g c =
    λ (three : _).
    let s = (returns-clause-run g c).said (λ e. absurd (omega (arith, e, three))) (λ e. absurd (omega (arith, e, three))) in
    let f = fault_at_3 c.args.words.now s.0 s.3.0 s.3.1 (ap (λ (o : Said). o.status) (sym s.3.3) ∙ sym s.5 ∙ three) in
    (f.0, f.1, rose_at_none f.0 (g.F.Shelf.seen c.args.files.now) (g.F.Shelf.seen c.run-ran.new.files) s.0.file f.2 (s.2.from_files.named f.0 f.1))

pub returns-clause-file_failed : goal.returns-clause-file_failed
returns-clause-file_failed g c =
    λ name names rise.
    elim (cases_eq c.conclude.result 5) [
      | inl five ↦ inr (inl five)
      | inr well ↦ elim (cases_eq c.conclude.result 8) [
        | inl eight ↦ inr (inr eight)
        | inr enough ↦
            let s = (returns-clause-run g c).said well enough in
            let none = none_at_rise name (g.F.Shelf.seen c.args.files.now) (g.F.Shelf.seen c.run-ran.new.files) s.0.file (s.2.from_files.named name names) rise in
            inl (s.5 ∙ ap (λ (o : Said). o.status) s.3.3 ∙ only_fault c.args.words.now s.0 name s.3.0 s.3.1 names none)
      ]
    ]

pub returns-clause-other_files : goal.returns-clause-other_files
returns-clause-other_files g c =
    elim (cases_eq c.conclude.result 5) [
      | inl five ↦ ((returns-clause-run g c).write_fault five).2.from_files.others
      | inr well ↦ elim (cases_eq c.conclude.result 8) [
        | inl eight ↦ ((returns-clause-run g c).no_memory eight).2.from_files.others
        | inr enough ↦ ((returns-clause-run g c).said well enough).2.from_files.others
      ]
    ]

pub returns-clause-read_fault : goal.returns-clause-read_fault
returns-clause-read_fault g c =
    λ (four : _).
    let s = (returns-clause-run g c).said (λ e. absurd (omega (arith, e, four))) (λ e. absurd (omega (arith, e, four))) in
    rose_at_4 s.0.how s.3.0 _ _ s.0.bytes (ap (λ (o : Said). o.status) (sym s.3.3) ∙ sym s.5 ∙ four) s.2.from_input.left

pub returns-clause-too_long : goal.returns-clause-too_long
returns-clause-too_long g c =
    λ (thirteen : _).
    let s = (returns-clause-run g c).said (λ e. absurd (omega (arith, e, thirteen))) (λ e. absurd (omega (arith, e, thirteen))) in
    (s.0.bytes, over_at_13 s.0.how s.3.0 _ _ s.0.bytes (ap (λ (o : Said). o.status) (sym s.3.3) ∙ sym s.5 ∙ thirteen) s.2.from_input)

-- a run that ended has neither of the two other statuses
ended : (words : List (List ℕ)) (n : ℕ) → ((n ≡ 0) × ((command : FileCommand) (name : List ℕ) → AreOverFile words command name → ⊥)) ⊎ (n ≡ 7) → (n ≢ 5) × (n ≢ 8) × (is_end n ≡ true)
ended words n (inl e) = (λ f. absurd (omega (arith, e.0, f)), λ f. absurd (omega (arith, e.0, f)), ap is_end e.0)
ended words n (inr e) = (λ f. absurd (omega (arith, e, f)), λ f. absurd (omega (arith, e, f)), ap is_end e)

-- and took no description alone
not_described : (words : List (List ℕ)) (t : Taken) (course : Course) (n : ℕ) → ComesTo words t course → (said t.how course).status ≡ n → ((n ≡ 0) × ((command : FileCommand) (name : List ℕ) → AreOverFile words command name → ⊥)) ⊎ (n ≡ 7) → IsDescribed course → ⊥
not_described words t course n comes e (inl zero) is = let over = described_by words t course comes is in zero.1 over.0 over.1 over.2
not_described words t course n comes e (inr seven) is = described_not_7 t.how course (e ∙ seven) is

pub returns-clause-read_to_end : goal.returns-clause-read_to_end
returns-clause-read_to_end g c =
    λ (end : _).
    let known = ended c.args.words.now c.conclude.result end in
    let s = (returns-clause-run g c).said known.0 known.1 in
    let is = ap (λ (o : Said). o.status) (sym s.3.3) ∙ sym s.5 in
    ended_at s.0.how s.3.0 _ _ s.0.bytes (ap is_end is ∙ known.2) (not_described c.args.words.now s.0 s.3.0 c.conclude.result s.3.1 is end) s.3.2 s.2.from_input.left

pub returns-clause-type_refused : goal.returns-clause-type_refused
returns-clause-type_refused g c =
    λ (twelve : _).
    let s = (returns-clause-run g c).said (λ e. absurd (omega (arith, e, twelve))) (λ e. absurd (omega (arith, e, twelve))) in
    let f = refused_at_12 c.args.words.now s.0 s.3.0 s.3.1 (ap (λ (o : Said). o.status) (sym s.3.3) ∙ sym s.5 ∙ twelve) in
    (f.0, f.1, f.2, f.3, f.4, seen_of f.0 (g.F.Shelf.seen c.args.files.now) (g.F.Shelf.seen c.run-ran.new.files) s.0.file f.2 f.5 (s.2.from_files.named f.0 (inl (f.1, f.4))), f.6, f.7)

pub returns-clause-no_value_refused : goal.returns-clause-no_value_refused
returns-clause-no_value_refused g c =
    λ (six : _).
    let s = (returns-clause-run g c).said (λ e. absurd (omega (arith, e, six))) (λ e. absurd (omega (arith, e, six))) in
    no_status_6 c.args.words.now s.0 s.3.0 s.3.1 (ap (λ (o : Said). o.status) (sym s.3.3) ∙ sym s.5 ∙ six)

pub returns-clause-line_refused : goal.returns-clause-line_refused
returns-clause-line_refused g c =
    λ (ten : _).
    let s = (returns-clause-run g c).said (λ e. absurd (omega (arith, e, ten))) (λ e. absurd (omega (arith, e, ten))) in
    line_at_10 c.args.words.now s.0 s.1 _ _ _ _ s.3 (sym s.5 ∙ ten) s.2.from_input s.4

pub returns-clause-all_well : goal.returns-clause-all_well
returns-clause-all_well g c =
    λ (zero : _).
    let s = (returns-clause-run g c).said (λ e. absurd (omega (arith, e, zero))) (λ e. absurd (omega (arith, e, zero))) in
    well_at_0 c.args.words.now _ _ _ s.0 s.1 s.2 s.3 (sym s.5 ∙ zero) s.4

pub returns-clause-truncated : goal.returns-clause-truncated
returns-clause-truncated g c =
    λ (seven : _).
    let s = (returns-clause-run g c).said (λ e. absurd (omega (arith, e, seven))) (λ e. absurd (omega (arith, e, seven))) in
    cut_at_7 c.args.words.now _ _ _ s.0 s.1 s.2 s.3 (sym s.5 ∙ seven) s.4

pub returns-clause-complete : goal.returns-clause-complete
returns-clause-complete g c =
    λ t outcome told tool well. complete c.args.words.now g.F.Shelf.counts_with _ _ c.conclude.result (returns-clause-run g c) t outcome told tool well

pub returns-clause-values_end_well : goal.returns-clause-values_end_well
returns-clause-values_end_well g c =
    λ tells well. values_well c.args.words.now g.F.Shelf.counts_with _ _ c.conclude.result (returns-clause-run g c) tells well

pub returns-clause-script_ends_well : goal.returns-clause-script_ends_well
returns-clause-script_ends_well g c =
    λ tells well. script_well c.args.words.now g.F.Shelf.counts_with _ _ c.conclude.result (returns-clause-run g c) tells well

pub returns-clause-print_ends_well : goal.returns-clause-print_ends_well
returns-clause-print_ends_well g c =
    λ name text d over told described well out. answered_well c.args.words.now g.F.Shelf.counts_with _ _ c.conclude.result (returns-clause-run g c) Print name text d over told described well out

pub returns-clause-check_ends_well : goal.returns-clause-check_ends_well
returns-clause-check_ends_well g c =
    λ name text d over told described well out. answered_well c.args.words.now g.F.Shelf.counts_with _ _ c.conclude.result (returns-clause-run g c) Check name text d over told described well out

pub returns-clause-none_accepted : goal.returns-clause-none_accepted
returns-clause-none_accepted g c =
    λ name text names told well none. refused_text c.args.words.now g.F.Shelf.counts_with _ _ c.conclude.result (returns-clause-run g c) name text names told well none

pub returns-clause-print_leaves_input : goal.returns-clause-print_leaves_input
returns-clause-print_leaves_input g c = λ name over. c.run-ran.ensures.file_alone Print name over

pub returns-clause-check_leaves_input : goal.returns-clause-check_leaves_input
returns-clause-check_leaves_input g c = λ name over. c.run-ran.ensures.file_alone Check name over
