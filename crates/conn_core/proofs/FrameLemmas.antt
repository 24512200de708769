-- What a frame does to what is kept is what it does to the table.
use Rattle.std.proofs.Common.{◌≡◌, inl, ℕ, ◌+◌, Bool, true, false, List, refl, sym, ap, subst, ◌∙◌, Option, Some, None, Ok, Err}
use Rattle.std.specs.Prelude.{Result, if◌then◌else◌}
use Rattle.txn_core.specs.RowSteps.{answer_of, awaiting, settled, table_or}
use Rattle.txn_core.specs.RowTables.{Row, is_quarantined}
use Rattle.node_tree.specs.declared.readings.Reading.{Reading}
use Rattle.wire_frames.specs.WireMeaning.{WireMeaning}
use Rattle.wire_frames.specs.declared.ends.FrameWhy.{FrameWhy}
use Rattle.wire_frames.specs.declared.ends.Outcome.{Outcome}
use Rattle.wire_frames.specs.declared.ends.Reason.TheVariants as reasons
use Rattle.conn_core.specs.KeptMoves.{Arrives, MovesOrNoMemory}
use Rattle.conn_core.specs.KeptSteps.{undecodable_kept}
use Rattle.conn_core.specs.KeptTables.{Stands}
use Rattle.conn_core.specs.Steps.{apply_frame, arrived, closed_by, counted, received, when_open}
use Rattle.conn_core.specs.Tables.{Handed, Table}
use Rattle.conn_core.specs.declared.answers.FrameAnswer.{FrameAnswer}
use Rattle.conn_core.specs.declared.answers.FrameAnswer.TheVariants as frame_answers
use Rattle.conn_core.specs.declared.answers.FrameRefusal.TheVariants as frame_refusals
use Rattle.conn_core.specs.declared.entries.Entry.{Entry}
use Rattle.conn_core.specs.declared.table.KeptTable.{KeptTable}
use Rattle.conn_core.proofs.StandLemmas.{closed_stands}

-- ---- a frame is counted

pub counted_kept_stands : (journal : List Entry) (k : KeptTable) (t : Table) → Stands journal k t → (let m : KeptTable = record k { frames = k.frames + 1 } in Stands journal m (counted t))
counted_kept_stands journal k t s = record {
  requests = s.requests;
  leases = s.leases;
  clock = s.clock;
  closed = s.closed;
  frames = ap (λ n. n + 1) s.frames;
  handed = s.handed;
}

abbrev counted_pair : Table × FrameAnswer → Table × FrameAnswer
counted_pair p = (counted p.0, p.1)

abbrev pub settled_if : ℕ → Table → Bool → Table × FrameAnswer
settled_if reference t b = if b then (record t { requests = settled reference t.requests }, frame_answers.Late reference) else (t, frame_answers.Stray reference)

without_counted : (reference : ℕ) (t : Table) (b : Bool) → settled_if reference (counted t) b ≡ counted_pair (settled_if reference t b)
without_counted reference t true = refl
without_counted reference t false = refl

pub arrived_counted : (wire : WireMeaning) (reference : ℕ) (reading : Reading) (t : Table) (found : Option (Row Handed Outcome)) → arrived wire reference reading (counted t) found ≡ (counted (arrived wire reference reading t found).0, (arrived wire reference reading t found).1)
arrived_counted wire reference reading t None = without_counted reference t (is_quarantined reference t.requests)
arrived_counted wire reference reading t (Some row) = refl

-- ---- a frame that was read

frame_is : (wire : WireMeaning) (t : Table) (bytes : List ℕ) (reading : Result Reading FrameWhy) → t.closed ≡ None → wire.reading_of bytes ≡ reading → apply_frame wire t bytes ≡ Ok (received wire t bytes reading)
frame_is wire t bytes reading unclosed reads =
    ap (λ o. when_open frame_refusals.Closed o (Ok (received wire t bytes (wire.reading_of bytes)))) unclosed ∙ ap (λ r. Ok (received wire t bytes r)) reads

pub read_moves : (wire : WireMeaning) (journal : List Entry) (k m : KeptTable) (t : Table) (bytes : List ℕ) (reference : ℕ) (reading : Reading) (answer : FrameAnswer) → Stands journal k t → k.closed ≡ None → wire.reading_of bytes ≡ Ok reading → reference ≡ wire.reference_of bytes → Arrives wire journal m t reference reading answer → (let n : KeptTable = record m { frames = m.frames + 1 } in MovesOrNoMemory frame_refusals.NoMemory journal n t (apply_frame wire t bytes) (Ok answer))
read_moves wire journal k m t bytes reference reading answer stands unclosed reads refers arrives =
    let n : KeptTable = record m { frames = m.frames + 1 } in
    let found = awaiting reference t.requests in
    let p = arrived wire reference reading t found in
    let is : apply_frame wire t bytes ≡ Ok (counted p.0, p.1) =
    frame_is wire t bytes (Ok reading) (sym stands.closed ∙ unclosed) reads
    ∙ ap (λ r. Ok (arrived wire r reading (counted t) (awaiting r t.requests))) (sym refers)
    ∙ ap Ok (arrived_counted wire reference reading t found) in
    let next : Stands journal n (counted p.0) = counted_kept_stands journal m p.0 arrives.stands in
    record {
      answer = inl (ap Ok arrives.answer_is ∙ sym (ap answer_of is));
      stands = let P : Table → Type 0 = Stands journal n in subst P (sym (ap (table_or t) is)) next;
    }

-- ---- a frame that can't be read

pub unread_moves : (wire : WireMeaning) (journal : List Entry) (k m : KeptTable) (t : Table) (bytes : List ℕ) (why : FrameWhy) → Stands journal k t → k.closed ≡ None → wire.reading_of bytes ≡ Err why → m ≡ undecodable_kept why k → MovesOrNoMemory frame_refusals.NoMemory journal m t (apply_frame wire t bytes) (Ok (frame_answers.Undecodable k.frames why))
unread_moves wire journal k m t bytes why stands unclosed reads is_kept =
    let counted_k : KeptTable = record k { frames = k.frames + 1 } in
    let is : apply_frame wire t bytes ≡ Ok (received wire t bytes (Err why)) = frame_is wire t bytes (Err why) (sym stands.closed ∙ unclosed) reads in
    let shut = closed_stands journal counted_k (counted t) (reasons.Undecodable k.frames why) (counted_kept_stands journal k t stands) in
    let same : Stands journal m (closed_by (reasons.Undecodable k.frames why) (counted t)) = let P : KeptTable → Type 0 = λ x. Stands journal x (closed_by (reasons.Undecodable k.frames why) (counted t)) in subst P (sym is_kept) shut in
    record {
      answer = inl (ap (λ n. Ok (frame_answers.Undecodable n why)) stands.frames ∙ sym (ap answer_of is));
      stands =
          let P : Table → Type 0 = Stands journal m in
          let Q : ℕ → Type 0 = λ n. Stands journal m (closed_by (reasons.Undecodable n why) (counted t)) in
          subst P (sym (ap (table_or t) is)) (subst Q stands.frames same);
    }
