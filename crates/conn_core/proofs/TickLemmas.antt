-- A tick in which nothing is due.
use Rattle.std.proofs.Common.{◌≡◌, ℕ, Bool, true, false, cond, List, [], ◌∷◌, length, refl, ap, ◌∙◌, arith, Option, Some, None}
use Rattle.std.specs.Prelude.{not, filter}
use Rattle.lease_core.specs.LeaseLaws.{no_length}
use Rattle.lease_core.specs.LeaseSteps.{outlasts}
use Rattle.lease_core.specs.LeaseTables.{Lease, LeaseTable, due_numbers, is_due as is_due_lease, numbers}
use Rattle.txn_core.specs.RowEnds.{count_first, ended_none}
use Rattle.txn_core.specs.RowSteps.{ended_all}
use Rattle.txn_core.specs.RowTables.{IsRowTable, Row, RowTable, count_where, first_where, is_due}
use Rattle.wire_frames.specs.declared.ends.EndKind.{EndKind}
use Rattle.wire_frames.specs.declared.ends.EndKind.TheVariants.{Expired, LeaseGone}
use Rattle.conn_core.specs.KeptEnds.{leases_ended}
use Rattle.conn_core.specs.KeptSteps.{ticked_requests}
use Rattle.conn_core.specs.Steps.{is_nothing}
use Rattle.conn_core.specs.declared.answers.Ticked.{Ticked}
use Rattle.conn_core.specs.declared.table.KeptTable.{KeptTable}

none_cases : {X E : Type 0} (p : Row X E → Bool) (kind : E) (t : RowTable X E) (first : Option ℕ) → IsRowTable t → first_where p t ≡ first → count_where p t ≡ 0 → ended_all p kind t ≡ t
none_cases p kind t None table e none = ended_none p kind t e
none_cases p kind t (Some id) table e none = let more = count_first p kind t id table e in absurd (omega arith)

pub none_ends : {X E : Type 0} (p : Row X E → Bool) (kind : E) (t : RowTable X E) → IsRowTable t → count_where p t ≡ 0 → ended_all p kind t ≡ t
none_ends p kind t table none = none_cases p kind t (first_where p t) table refl none

none_due_step : (now : ℕ) (x : Lease) (xs : List Lease) (b : Bool) → length (numbers (cond b (x ∷ filter (is_due_lease now) xs) (filter (is_due_lease now) xs))) ≡ 0 → (length (due_numbers now xs) ≡ 0 → filter (outlasts now) xs ≡ xs) → cond (not b) (x ∷ filter (outlasts now) xs) (filter (outlasts now) xs) ≡ x ∷ xs
none_due_step now x xs true e rest = absurd (omega arith)
none_due_step now x xs false e rest = ap (λ ys. x ∷ ys) (rest e)

pub none_due_left : (now : ℕ) (xs : List Lease) → length (due_numbers now xs) ≡ 0 → filter (outlasts now) xs ≡ xs
none_due_left now [] e = refl
none_due_left now (x ∷ xs) e = none_due_step now x xs (is_due_lease now x) e (none_due_left now xs)

pub zero_nothing : (a b c : ℕ) → a ≡ 0 → b ≡ 0 → c ≡ 0 → (let count : Ticked = record { rows = a; leases = b; waiters = c } in is_nothing count ≡ true)
zero_nothing a b c e f g = rw (e, f, g) refl

pub same_counts : (a b c d e f : ℕ) → a ≡ d → b ≡ e → c ≡ f → (let x : Ticked = record { rows = a; leases = b; waiters = c } in x) ≡ (let y : Ticked = record { rows = d; leases = e; waiters = f } in y)
same_counts a b c d e f x y z = cc

pub same_kept : (k : KeptTable) (r s : RowTable (Unit {0}) EndKind) (l m : LeaseTable) → r ≡ s → l ≡ m → (let x : KeptTable = record k { requests = r; leases = l } in x) ≡ (let y : KeptTable = record k { requests = s; leases = m } in y)
same_kept k r s l m e f = cc

-- where no request and no lease is due, no request ends
pub quiet_requests : (now : ℕ) (k : KeptTable) → IsRowTable k.requests → count_where (is_due now) k.requests ≡ 0 → length (due_numbers now k.leases.held) ≡ 0 → ticked_requests now k ≡ k.requests
quiet_requests now k table none left =
    ap (λ ns. leases_ended LeaseGone ns (ended_all (is_due now) Expired k.requests)) (no_length (due_numbers now k.leases.held) left)
    ∙ none_ends (is_due now) Expired k.requests table none
