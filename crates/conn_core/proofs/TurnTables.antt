-- The table after a turn.
use Rattle.std.proofs.Common.{◌≡◌, ◌⊎◌, inl, inr, ◌+◌, Bool, true, false, List, [], ◌∷◌, ◌++◌, length, refl, sym, ap, ◌∙◌, Some, None, append_assoc}
use Rattle.std.specs.Prelude.{◌==◌}
use Rattle.wire_frames.specs.declared.ends.Reason.TheVariants as reasons
use Rattle.conn_core.specs.Entries.{closing_reason}
use Rattle.conn_core.specs.Journals.{after_turn, after_turn_if, table_of, turn_if, turn_of, wears, worn_entry}
use Rattle.conn_core.specs.Steps.{closed_by, step}
use Rattle.conn_core.specs.Tables.{Connection, Table}
use Rattle.conn_core.specs.declared.entries.Entry.{Entry}
use Rattle.conn_core.proofs.StepLaws.{follows, open_of, worn_steps}
use Rattle.conn_core.proofs.TurnLemmas.{table_more}

turn_if_table : (c : Connection) (journal : List Entry) (e : Entry) (t : Table) (b : Bool) → step c (table_of c journal) e.actor e.event ≡ Some (t, e.answer) → wears c.settings (length journal + 1) t ≡ b → table_of c (journal ++ turn_if b e) ≡ after_turn_if b t
turn_if_table c journal e t false stepped is = table_more c journal e t stepped
turn_if_table c journal e t true stepped is =
    let unclosed = open_of (length journal + 1 == c.settings.journal) t.closed is in
    let now : table_of c (journal ++ e ∷ []) ≡ t = table_more c journal e t stepped in
    let worn = worn_entry e.actor in
    ap (table_of c) (sym (append_assoc journal (e ∷ []) (worn ∷ []))) ∙ table_more c (journal ++ e ∷ []) worn (closed_by reasons.Worn t) (rw now (worn_steps c t e.actor unclosed))

pub turn_table : (c : Connection) (journal : List Entry) (e : Entry) (t : Table) → step c (table_of c journal) e.actor e.event ≡ Some (t, e.answer) → table_of c (journal ++ turn_of c.settings (length journal + 1) t e) ≡ after_turn c.settings (length journal + 1) t
turn_table c journal e t stepped = turn_if_table c journal e t (wears c.settings (length journal + 1) t) stepped refl

open_cases : (t u : Table) (e : Entry) → ((t.closed ≡ None) × (u.closed ≡ closing_reason e)) ⊎ ((u.closed ≡ t.closed) × (closing_reason e ≡ None)) → closing_reason e ≡ None → u.closed ≡ t.closed
open_cases t u e (inl both) none = both.1 ∙ none ∙ sym both.0
open_cases t u e (inr both) none = both.0

pub step_open : (c : Connection) (t : Table) (e : Entry) (u : Table) → step c t e.actor e.event ≡ Some (u, e.answer) → closing_reason e ≡ None → u.closed ≡ t.closed
step_open c t e u stepped none = open_cases t u e (follows c t u e.actor e.event e.answer stepped).closed none
