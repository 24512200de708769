-- What holds of the parts that are kept goes on to hold.
use Rattle.std.proofs.Common.{◌≡◌, ℕ, ◌+◌, ◌≤◌, refl, sym, ap, subst, ◌∙◌, arith, None, Ok}
use Rattle.lease_core.specs.LeaseTables.{IsLeaseTable, LeaseTable}
use Rattle.txn_core.specs.RowSteps.{answer_of, replied, table_or, taken, without}
use Rattle.txn_core.specs.RowTables.{IsRowTable, RowTable, any_row, count_where}
use Rattle.wire_frames.specs.declared.ends.EndKind.{EndKind}
use Rattle.wire_frames.specs.declared.ends.FrameWhy.{FrameWhy}
use Rattle.wire_frames.specs.declared.ends.Reason.TheVariants as reasons
use Rattle.conn_core.specs.KeptMoves.{KeepsOn}
use Rattle.conn_core.specs.KeptStates.{IsKept, needs_of}
use Rattle.conn_core.specs.KeptSteps.{undecodable_kept}
use Rattle.conn_core.specs.declared.settings.Settings.{Settings}
use Rattle.conn_core.specs.declared.table.KeptTable.{KeptTable}
use Rattle.conn_core.proofs.MoveNeeds.{replied_live, taken_live}
use Rattle.conn_core.proofs.RowStands.{take_row}
use Rattle.conn_core.proofs.TurnLemmas.{closed_kept_at, closed_needs}

pub kept_on : (s : Settings) (entries more : ℕ) (k m : KeptTable) → IsKept s entries k → entries ≤ more → IsRowTable m.requests → m.requests.references ≡ k.requests.references → m.requests.window ≡ k.requests.window → m.requests.drawn ≤ more → m.leases ≡ k.leases → m.closed ≡ k.closed → m.frames ≤ more → count_where any_row m.requests ≤ count_where any_row k.requests → IsKept s more m
kept_on s entries more k m h later rows references window drawn leases closed frames live = record {
  rows = rows;
  leases = let P : LeaseTable → Type 0 = IsLeaseTable in subst P (sym leases) h.leases;
  references = references ∙ h.references;
  window = window ∙ h.window;
  share = ap (λ (l : LeaseTable). l.share) leases ∙ h.share;
  lease_ms = ap (λ (l : LeaseTable). l.lease_ms) leases ∙ h.lease_ms;
  wait_ms = ap (λ (l : LeaseTable). l.wait_ms) leases ∙ h.wait_ms;
  requests_drawn = drawn;
  leases_drawn = let same = ap (λ (l : LeaseTable). l.drawn) leases in let was = h.leases_drawn in omega arith;
  frames = frames;
  quiet = λ reason e.
      let quiet = h.quiet reason (sym closed ∙ e) in
      record {
        live = let was = quiet.live in omega arith;
        held = ap (λ (l : LeaseTable). l.held) leases ∙ quiet.held;
        waiting = ap (λ (l : LeaseTable). l.waiting) leases ∙ quiet.waiting;
      };
}

same_parts : (r t : RowTable (Unit {0}) EndKind) → r ≡ t → (r.references ≡ t.references) × (r.window ≡ t.window) × (r.drawn ≡ t.drawn)
same_parts r t e = (ap (λ (x : RowTable (Unit {0}) EndKind). x.references) e, ap (λ (x : RowTable (Unit {0}) EndKind). x.window) e, ap (λ (x : RowTable (Unit {0}) EndKind). x.drawn) e)

pub collect_keeps : (k m : KeptTable) (owner id : ℕ) (kind : EndKind) → IsRowTable k.requests → answer_of (taken owner id k.requests) ≡ Ok kind → m.requests ≡ table_or k.requests (taken owner id k.requests) → IsRowTable m.requests → m.leases ≡ k.leases → m.closed ≡ k.closed → m.frames ≡ k.frames → KeepsOn k m
collect_keeps k m owner id kind table h requests rows leases closed frames = λ s entries was.
    let row = take_row k.requests owner id kind table h in
    let parts = same_parts m.requests (without owner id k.requests) (requests ∙ ap (table_or k.requests) row.taken) in
    let same = parts.2 in
    let live = ap (count_where any_row) requests ∙ taken_live k owner id kind table h in
    let drawn_was = was.requests_drawn in
    let frames_was = was.frames in
    kept_on s entries (entries + 1) k m was (omega arith) rows parts.0 parts.1 (omega arith) leases closed (omega arith) (omega arith)

pub answered_keeps : (s : Settings) (entries : ℕ) (k m : KeptTable) (id : ℕ) (kind : EndKind) → IsKept s entries k → m.requests ≡ replied id kind k.requests → IsRowTable m.requests → m.leases ≡ k.leases → m.closed ≡ k.closed → m.frames ≡ k.frames → IsKept s entries m
answered_keeps s entries k m id kind was requests rows leases closed frames =
    let parts = same_parts m.requests (replied id kind k.requests) requests in
    let same = parts.2 in
    let fewer = replied_live id kind k.requests in
    let live = ap (count_where any_row) requests in
    let drawn_was = was.requests_drawn in
    let frames_was = was.frames in
    kept_on s entries entries k m was (omega arith) rows parts.0 parts.1 (omega arith) leases closed (omega arith) (omega arith)

-- a frame more was taken
pub counted_keeps : (s : Settings) (entries : ℕ) (k : KeptTable) → IsKept s entries k → (let m : KeptTable = record k { frames = k.frames + 1 } in IsKept s (entries + 1) m)
counted_keeps s entries k was =
    let m : KeptTable = record k { frames = k.frames + 1 } in
    let drawn_was = was.requests_drawn in
    let frames_was = was.frames in
    kept_on s entries (entries + 1) k m was (omega arith) was.rows refl refl (omega arith) refl refl (omega arith) (omega arith)

pub undecodable_keeps : (why : FrameWhy) (k : KeptTable) → KeepsOn k (undecodable_kept why k)
undecodable_keeps why k = λ s entries was.
    let m : KeptTable = record k { frames = k.frames + 1 } in
    closed_kept_at s (entries + 1) m (reasons.Undecodable k.frames why) (counted_keeps s entries k was)

pub undecodable_needs : (why : FrameWhy) (k : KeptTable) → k.closed ≡ None → needs_of (undecodable_kept why k) ≤ needs_of k
undecodable_needs why k unclosed =
    let m : KeptTable = record k { frames = k.frames + 1 } in
    let less = closed_needs m (reasons.Undecodable k.frames why) unclosed in
    omega arith
