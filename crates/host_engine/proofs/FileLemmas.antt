-- What was seen of a file of which a front was read, and what its description comes to.
use Rattle.std.proofs.Common.{◌≡◌, ℕ, ◌⊎◌, List, [], take, Option, Some, None, Ok, Err, refl, inl, inr, subst}
use Rattle.std.specs.Bool.{IsTrue}
use Rattle.std.specs.Option.{IfSome}
use Rattle.mspec_tree.specs.declared.defs.Description.{Description}
use Rattle.mspec_tree.specs.declared.words.Place.{Place}
use Rattle.link_io.specs.Counts.{Rose}
use Rattle.link_io.specs.Streams.{ShelfSeen}
use Rattle.host_engine.specs.declared.describing.TextFault.{TextFault}
use Rattle.host_engine.specs.declared.describing.TextFault.TheVariants as texts
use Rattle.host_engine.specs.declared.describing.TextWhy.{TextWhy}
use Rattle.host_engine.specs.declared.files.FileFault.{FileFault}
use Rattle.host_engine.specs.declared.files.FileFault.TheVariants.{Failed, NoMemory}
use Rattle.host_engine.specs.declared.preparing.Refusal.{Refusal}
use Rattle.host_engine.specs.declared.preparing.Refusal.TheVariants as refusals
use Rattle.host_engine.specs.Preparing.{ComesToRefusal, IsRefusedFile, from_file, from_text}
use Rattle.host_engine.specs.Runs.{FileSeen, FileTaken, LacksFile}
use Rattle.host_engine.specs.Texts.{IsRefusedText, Describes, OfTextFault}
use Rattle.host_engine.specs.Tool.{AreRefused, NamesFile}
use Rattle.host_engine.proofs.StatusLemmas.{refused_file}
use Rattle.host_engine.proofs.TextLaws.{front_refused, described_short, whole_text}
use Rattle.host_engine.proofs.WordLemmas.{one_file}

-- ---- the file

pub text_seen : (told : Option (List ℕ)) (text : List ℕ) (d : Description) → IfSome told (λ bytes. text ≡ take 1048577 bytes) → Describes text d → IfSome told (λ bytes. text ≡ bytes)
text_seen None text d front tree = tt
text_seen (Some bytes) text d front tree = whole_text text bytes front (described_short text d tree)

refused_seen : (told : Option (List ℕ)) (text : List ℕ) (place : Place) (why : TextWhy) → IfSome told (λ bytes. text ≡ take 1048577 bytes) → IsRefusedText text place why → (seen : List ℕ) × IfSome told (λ bytes. seen ≡ bytes) × IsRefusedText seen place why
refused_seen None text place why front fault = (text, tt, fault)
refused_seen (Some bytes) text place why front fault = (bytes, refl, front_refused text bytes place why front fault)

-- some bytes that agree with what is told
some_seen : (told : Option (List ℕ)) → (seen : List ℕ) × IfSome told (λ bytes. seen ≡ bytes)
some_seen None = ([], tt)
some_seen (Some bytes) = (bytes, refl)

-- the file's description was refused, and this was seen of the file
abbrev pub IsRefusedSeen : (name : List ℕ) → (before after : ShelfSeen) → Refusal → Type 0
IsRefusedSeen name before after refusal = (file : Option (List ℕ)) × FileSeen name before after file × IsRefusedFile file refusal

-- a fault of the file
pub failed_seen : (name : List ℕ) (before after : ShelfSeen) (e : FileFault) → (e ≡ Failed → Rose (before.faults name) (after.faults name)) → ((e ≡ Failed) ⊎ ((other : List ℕ) → after.faults other ≡ before.faults other)) → (IsTrue (before.lacks name) → e ≡ Failed) → IsRefusedSeen name before after (from_file e)
failed_seen name before after Failed rose kept lacking = (None, rose refl, refl)
failed_seen name before after NoMemory rose kept lacking =
    let some = some_seen (before.file name) in
    let same : (other : List ℕ) → after.faults other ≡ before.faults other = elim kept [ inl bad ↦ absurd cc | inr same ↦ same ] in
    (Some some.0, (same, some.1, λ lacks. absurd (let h = lacking lacks in cc)), tt)

-- a text without a tree, or want of memory
pub unformed_seen : (name text : List ℕ) (before after : ShelfSeen) (e : TextFault) → ((other : List ℕ) → after.faults other ≡ before.faults other) → IfSome (before.file name) (λ bytes. text ≡ take 1048577 bytes) → (IsTrue (before.lacks name) → ⊥) → OfTextFault e (λ place why. IsRefusedText text place why) → IsRefusedSeen name before after (from_text e)
unformed_seen name text before after (texts.At place why) same front there fault =
    let seen = refused_seen (before.file name) text place why front fault in
    (Some seen.0, (same, seen.1, there), (seen.0, refl, seen.2))
unformed_seen name text before after texts.NoMemory same front there fault =
    let some = some_seen (before.file name) in
    (Some some.0, (same, some.1, there), tt)

-- ---- the words

pub seen_by : (words : List (List ℕ)) (name : List ℕ) (counts_with : List ℕ → List ℕ → Type 0) (before after : ShelfSeen) (file : Option (List ℕ)) → NamesFile words name → FileSeen name before after file → ((other : List ℕ) → (counts_with name other → ⊥) → after.faults other ≡ before.faults other) → FileTaken words counts_with before after file
seen_by words name counts_with before after file names seen others =
    record {
      named = λ other w. subst (λ (n : List ℕ). FileSeen n before after file) (one_file words name other names w) seen;
      others = λ other h. others other (λ together. h (name, names, together));
    }

-- words of no command name no file
pub unnamed_taken : (words : List (List ℕ)) (counts_with : List ℕ → List ℕ → Type 0) (seen : ShelfSeen) → AreRefused words → FileTaken words counts_with seen seen None
unnamed_taken words counts_with seen none =
    record { named = λ name names. absurd (refused_file words name none names); others = λ other h. refl }

-- what the file that the words name comes to
pub named_refusal : (words : List (List ℕ)) (name : List ℕ) (file : Option (List ℕ)) (r : Refusal) → NamesFile words name → IsRefusedFile file r → ComesToRefusal words file r
named_refusal words name file refusals.WordsRefused names is = absurd is
named_refusal words name file refusals.FileFault names is = (name, names, is)
named_refusal words name file (refusals.TextRefused place why) names is = (name, is.0, names, is.1, is.2)
named_refusal words name file refusals.NotBuilt names is = absurd is
named_refusal words name file refusals.TypeRefused names is = absurd is
named_refusal words name file refusals.NoMemory names is = tt

-- the file that the words name is the one that the shelf lacks
pub lacks_here : (words : List (List ℕ)) (files : ShelfSeen) (file : List ℕ) → NamesFile words file → LacksFile words files → IsTrue (files.lacks file)
lacks_here words files file names lacks =
    subst (λ (n : List ℕ). IsTrue (files.lacks n)) (one_file words lacks.0 file lacks.1 names) lacks.2

-- no tree was read of it
pub no_tree_lacking : {T : Type 0} (words : List (List ℕ)) (files : ShelfSeen) (file : List ℕ) (tree : T) → NamesFile words file → (IsTrue (files.lacks file) → Ok tree ≡ Err refusals.FileFault) → LacksFile words files → ⊥
no_tree_lacking words files file tree names fails lacks =
    let failed = fails (lacks_here words files file names lacks) in cc
