-- What every call may rely on follows from a connection's state.
use Rattle.std.proofs.Common.{◌≡◌, ℕ, ◌<◌, ◌^◌, List, [], ◌∷◌, length, refl, ap, ◌∙◌, arith}
use Rattle.std.specs.List.{AllZip}
use Rattle.std.specs.Vec.{vec_capacity}
use Rattle.std.proofs.lemmas.List.{length-map}
use Rattle.txn_core.specs.PlainRows.{plain_row}
use Rattle.txn_core.specs.RowTables.{RowTable}
use Rattle.wire_frames.specs.declared.ends.EndKind.{EndKind}
use Rattle.conn_core.specs.Journals.{table_of}
use Rattle.conn_core.specs.KeptStates.{IsSound, IsState, IsStateOf}
use Rattle.conn_core.specs.KeptTables.{end_kind}
use Rattle.conn_core.specs.Tables.{Connection}
use Rattle.conn_core.specs.declared.entries.Entry.{Entry}
use Rattle.conn_core.specs.declared.kept.Kept.{Kept}
use Rattle.conn_core.specs.declared.table.KeptTable.{KeptTable}

zip_length : {A B : Type 0} (R : A → B → Type 0) (xs : List A) (ys : List B) → AllZip R xs ys → length ys ≡ length xs
zip_length R [] [] h = refl
zip_length R [] (y ∷ ys) h = absurd h
zip_length R (x ∷ xs) [] h = absurd h
zip_length R (x ∷ xs) (y ∷ ys) h = let rest = zip_length R xs ys h.1 in omega arith

pub state_short : (c : Connection) (journal : List Entry) (k : KeptTable) (room : ℕ) → IsStateOf c journal k room → length journal < 2 ^ 63
state_short c journal k room h = let within = h.within in let few = h.settings.journal in omega arith

pub state_sound : (c : Connection) (kept : Kept) → IsState c kept → IsSound kept
state_sound c kept h =
    let short = state_short c kept.journal.items kept.table (vec_capacity kept.journal) h in
    let t = table_of c kept.journal.items in
    let rows = ap (λ (r : RowTable (Unit {0}) EndKind). length r.rows) h.stands.requests ∙ length-map t.requests.rows (plain_row end_kind) in
    let handed = zip_length _ t.requests.rows kept.table.handed.items h.stands.handed in
    record {
      rows = h.kept.rows;
      leases = h.kept.leases;
      handed = omega arith;
      requests_drawn = let drawn = h.kept.requests_drawn in omega arith;
      leases_drawn = let drawn = h.kept.leases_drawn in omega arith;
      frames = let frames = h.kept.frames in omega arith;
      room = h.room;
    }
