-- Which references are awaited after any walk, and that all that stands of rows goes on to stand.
use Rattle.std.proofs.Common.{◌≡◌, inl, inr, ℕ, ◌<◌, ◌≤◌, true, false, List, [], ◌∷◌, ◌++◌, length, take, refl, sym, ap, subst, ◌∙◌, arith, Some, Ok}
use Rattle.std.specs.Prelude.{◌&&◌, count_by, nat_le}
use Rattle.std.specs.List.{range_with_len, slice_get}
use Rattle.std.proofs.lemmas.Bool.{cases_Bool, cases_eq, cases_lt, eq-eqb}
use Rattle.std.proofs.lemmas.Bool.Decides.{nat_tests}
use Rattle.txn_core.specs.RowLaws.{count_range, opening_table}
use Rattle.txn_core.specs.RowTables.{Row, has_reference, is_number, is_queued, is_queued_and, is_reference, phase_queued, uses_of}
use Rattle.node_tree.specs.declared.readings.Reading.{Reading}
use Rattle.wire_frames.specs.declared.ends.Outcome.{Outcome}
use Rattle.conn_core.specs.HistoryLaw.{Awaited}
use Rattle.conn_core.specs.Journals.{table_of}
use Rattle.conn_core.specs.Places.{FrameComes, SentAt, Submitted}
use Rattle.conn_core.specs.Steps.{step}
use Rattle.conn_core.specs.Tables.{Connection, Handed, IsSettings, Requests, Table}
use Rattle.conn_core.specs.declared.entries.Answer.{Answer}
use Rattle.conn_core.specs.declared.entries.Answer.TheVariants as answers
use Rattle.conn_core.specs.declared.entries.Entry.{Entry}
use Rattle.conn_core.specs.declared.entries.Event.{Event}
use Rattle.conn_core.specs.declared.entries.Event.TheVariants as events
use Rattle.conn_core.proofs.EntryLemmas.{get_low, walked_before}
use Rattle.conn_core.proofs.RowLaws.{Known, known}
use Rattle.conn_core.proofs.RowPlaces.{submitted_low}
use Rattle.conn_core.proofs.StepLaws.{Walked, begun, follows, walked}
use Rattle.conn_core.proofs.TurnLemmas.{get_last, table_more}
use Rattle.conn_laws.proofs.Fates.{Came, StaysOrEnds, comes, sends, stayed}
use Rattle.conn_laws.proofs.Members.{In, count_in}
use Rattle.conn_laws.proofs.OtherPlaces.{alike_more, comes_low, comes_over, same_request, sent_low, sent_over}
use Rattle.conn_laws.proofs.RowEffects.{Accepts}
use Rattle.conn_laws.proofs.RowsKept.{Facts, facts, not_both}
use Rattle.conn_laws.proofs.Slack as turns
use Rattle.conn_laws.proofs.Slack.{Refs, Turn, UsesLaw, comes_by, event_not, is_send, slack, uses_parts}
use Rattle.conn_laws.proofs.Standing.{IsOut, Standing, Went, came_to, ended_more, last_is, live_more, longer, new_id, newer, own_request, row_law, sent_last, turn_of}

sent_ids : (i id : ℕ) → answers.Sent i ≡ answers.Sent id → i ≡ id
sent_ids i id e = cc

frame_bytes : (a b : List ℕ) → events.Frame a ≡ events.Frame b → a ≡ b
frame_bytes a b e = cc

-- ---- what was sent

sent_now : (c : Connection) (journal : List Entry) (t : Table) (e : Entry) (u : Table) → Went c journal t e u → (id : ℕ) → e.event ≡ events.TakeSend → e.answer ≡ answers.Sent id → Turn c e t.requests u.requests → (row : Row Handed Outcome) × In row t.requests.rows × (is_queued row ≡ true) × (row.id ≡ id) × ((next : Row Handed Outcome) → In next u.requests.rows → next.id ≡ id → is_queued next ≡ false)
sent_now c journal t e u w id event answer (turns.quiet same no_send no_frame) = absurd (no_send event)
sent_now c journal t e u w id event answer (turns.sends row here queued is told less others none) =
    let same : row.id ≡ id = sent_ids row.id id (sym told ∙ answer) in
    (row, here, queued, same, λ next there own. none next there (own ∙ sym same))
sent_now c journal t e u w id event answer (turns.reads bytes reading is reads_it not_out others) = event_not events.TakeSend (events.Frame bytes) is_send refl refl (sym event ∙ is)

sent_accepted_more : (c : Connection) (journal : List Entry) (t : Table) (e : Entry) (u : Table) → Went c journal t e u → (id k : ℕ) → SentAt (journal ++ e ∷ []) id k → (r : Submitted (journal ++ e ∷ []) id) × (r.place < k)
sent_accepted_more c journal t e u w id k s =
    elim (cases_lt k (length journal)) [
      | inl low ↦ (
          let before = w.standing.sent_accepted id k (sent_over (journal ++ e ∷ []) journal (length journal) id k (sym (alike_more journal e)) low s) in
          let new = newer journal e id before.0 (submitted_low journal id before.0) in
          let place = new.1.place in
          let after = before.1 in
          (new.0, omega arith))
      | inr high ↦ (
          let both = sent_last journal e id k s high in
          let now = sent_now c journal t e u w id both.0 both.1 (turn_of c journal t e u w).turn in
          let P : ℕ → Type 0 = Submitted journal in
          let r = subst P now.3 (row_law c journal t now.0 w.before now.1).law.request in
          let low = submitted_low journal id r in
          let new = newer journal e id r low in
          let place = new.1.place in
          (new.0, omega arith))
    ]

still_queued : (row next : Row Handed Outcome) → StaysOrEnds row next → is_queued next ≡ true → is_queued row ≡ true
still_queued row next (inl same) queued = sym (ap phase_queued same) ∙ queued
still_queued row next (inr ends) queued = let not_queued : is_queued next ≡ false = ap phase_queued ends.2 in absurd (cc)

unsent_before : (c : Connection) (journal : List Entry) (t : Table) (e : Entry) (u : Table) → Went c journal t e u → (next : Row Handed Outcome) (id k : ℕ) → is_queued next ≡ true → next.id ≡ id → k < length journal → SentAt (journal ++ e ∷ []) id k → Came t e next → ⊥
unsent_before c journal t e u w next id k queued same low s (stayed x) =
    w.standing.unsent x.row id k x.here (still_queued x.row next x.phase queued) (sym x.kin.id ∙ same) (sent_over (journal ++ e ∷ []) journal (length journal) id k (sym (alike_more journal e)) low s)
unsent_before c journal t e u w next id k queued same low s (sends row here kin was phase event answer) = let not_queued : is_queued next ≡ false = ap phase_queued phase in absurd (cc)
unsent_before c journal t e u w next id k queued same low s (comes a phase refers) =
    let before = w.standing.sent_accepted id k (sent_over (journal ++ e ∷ []) journal (length journal) id k (sym (alike_more journal e)) low s) in
    let P : ℕ → Type 0 = Accepts e in
    new_id c journal t e u id w (subst P same a) before.0

unsent_more : (c : Connection) (journal : List Entry) (t : Table) (e : Entry) (u : Table) → Went c journal t e u → (next : Row Handed Outcome) (id k : ℕ) → In next u.requests.rows → is_queued next ≡ true → next.id ≡ id → ¬ SentAt (journal ++ e ∷ []) id k
unsent_more c journal t e u w next id k here queued same = λ s.
    elim (cases_lt k (length journal)) [
      | inl low ↦ unsent_before c journal t e u w next id k queued same low s (came_to c journal t e u w next here)
      | inr high ↦ (
          let both = sent_last journal e id k s high in
          let now = sent_now c journal t e u w id both.0 both.1 (turn_of c journal t e u w).turn in
          not_both (is_queued next) queued (now.4 next here same))
    ]

-- ---- awaited references

in_range : (c : Connection) (journal : List Entry) (t : Table) (e : Entry) (u : Table) → Went c journal t e u → (r : ℕ) → is_reference r u.requests ≡ is_reference r t.requests
in_range c journal t e u w r =
    let f = follows c t u e.actor e.event e.answer w.stepped in
    ap (λ (n : ℕ). let x : Requests = record u.requests { references = n } in is_reference r x) f.references

frame_last : (c : Connection) (journal : List Entry) (e : Entry) (k r : ℕ) (answer : Answer) → FrameComes c (journal ++ e ∷ []) k r answer → length journal ≤ k → (bytes : List ℕ) × (reading : Reading) × (e.event ≡ events.Frame bytes) × (c.wire.reading_of bytes ≡ Ok reading) × (c.wire.reference_of bytes ≡ r)
frame_last c journal e k r answer f high = (f.bytes, f.reading, ap (λ (x : Entry). x.event) (last_is journal e _ k f.stands high), f.reads, f.refers)

-- a frame that can be read, as it comes with the new entry
comes_now : (c : Connection) (journal : List Entry) (e : Entry) (bytes : List ℕ) (reading : Reading) → e.event ≡ events.Frame bytes → c.wire.reading_of bytes ≡ Ok reading → FrameComes c (journal ++ e ∷ []) (length journal) (c.wire.reference_of bytes) e.answer
comes_now c journal e bytes reading event reads = record {
  actor = e.actor;
  bytes = bytes;
  reading = reading;
  stands = get_last journal e ∙ ap (λ (x : Event). let y : Entry = record { actor = e.actor; event = x; answer = e.answer } in Some y) event;
  reads = reads;
  refers = refl;
}

sent_at_now : (journal : List Entry) (e : Entry) (id : ℕ) → e.event ≡ events.TakeSend → e.answer ≡ answers.Sent id → SentAt (journal ++ e ∷ []) id (length journal)
sent_at_now journal e id event answer = record {
  actor = e.actor;
  stands =
      get_last journal e
      ∙ ap (λ (x : Event). let y : Entry = record { actor = e.actor; event = x; answer = e.answer } in Some y) event
      ∙ ap (λ (x : Answer). let y : Entry = record { actor = e.actor; event = events.TakeSend; answer = x } in Some y) answer;
}

-- a queued row's reference isn't out, and no use is out of range
pub queued_in : (t : Requests) (row : Row Handed Outcome) → In row t.rows → is_queued row ≡ true → 1 ≤ slack row.reference t
queued_in t row here queued =
    let some = count_in (is_queued_and (has_reference row.reference)) t.rows row here (rw (queued, eq-eqb row.reference row.reference refl) refl) in omega arith

pub used_in : (t : Requests) (r : ℕ) → UsesLaw t → 1 ≤ uses_of r t → is_reference r t ≡ true
used_in t r law used = elim (cases_Bool (is_reference r t)) [ inl inside ↦ inside | inr out ↦ (let none = law.within r out in absurd (omega arith)) ]

-- the one that was awaited before
old_awaited : (c : Connection) (journal : List Entry) (t : Table) (e : Entry) (u : Table) → Went c journal t e u → (r : ℕ) (a : Awaited c (journal ++ e ∷ []) r) → a.sent < length journal → Awaited c journal r
old_awaited c journal t e u w r a low =
    let all = journal ++ e ∷ [] in
    let s = sent_over all journal (length journal) a.id a.sent (sym (alike_more journal e)) low a.sent_at in
    let before = w.standing.sent_accepted a.id a.sent s in
    let new = newer journal e a.id before.0 (submitted_low journal a.id before.0) in
    let same = same_request all a.id new.0 a.request (w.rows_after.accepted_once a.id new.0 a.request) in
    record {
      id = a.id;
      request = before.0;
      refers = new.1.reference ∙ same.reference ∙ a.refers;
      sent = a.sent;
      sent_at = s;
      none_since = λ k answer after f. a.none_since k answer after (comes_over c journal all (length journal) k r answer (alike_more journal e) (comes_low c journal k r answer f) f);
    }

-- it still is, where no frame with it comes
still_awaited : (c : Connection) (journal : List Entry) (e : Entry) (r : ℕ) (a : Awaited c journal r) → ((k : ℕ) (answer : Answer) → FrameComes c (journal ++ e ∷ []) k r answer → length journal ≤ k → ⊥) → Awaited c (journal ++ e ∷ []) r
still_awaited c journal e r a none =
    let all = journal ++ e ∷ [] in
    let low = sent_low journal a.id a.sent a.sent_at in
    let new = newer journal e a.id a.request (submitted_low journal a.id a.request) in
    record {
      id = a.id;
      request = new.0;
      refers = sym new.1.reference ∙ a.refers;
      sent = a.sent;
      sent_at = sent_over journal all (length journal) a.id a.sent (alike_more journal e) low a.sent_at;
      none_since = λ k answer after f. elim (cases_lt k (length journal)) [
        | inl before ↦ a.none_since k answer after (comes_over c all journal (length journal) k r answer (sym (alike_more journal e)) before f)
        | inr high ↦ none k answer f high
      ];
    }

old_is_out : (c : Connection) (journal : List Entry) (t : Table) (e : Entry) (u : Table) → Went c journal t e u → (r : ℕ) (a : Awaited c (journal ++ e ∷ []) r) → a.sent < length journal → IsOut r t.requests → Turn c e t.requests u.requests → slack r u.requests ≡ 0
old_is_out c journal t e u w r a low was (turns.quiet same no_send no_frame) = same r ∙ was.1
old_is_out c journal t e u w r a low was (turns.sends row here queued event told less others none) =
    elim (cases_eq r row.reference) [
      | inl same ↦ (let zero_before : slack row.reference t.requests ≡ 0 = ap (λ n. slack n t.requests) (sym same) ∙ was.1 in absurd (omega arith))
      | inr other ↦ others r other ∙ was.1
    ]
old_is_out c journal t e u w r a low was (turns.reads bytes reading event reads_it not_out others) =
    elim (cases_eq r (c.wire.reference_of bytes)) [
      | inl same ↦ (
          let P : ℕ → Type 0 = λ n. FrameComes c (journal ++ e ∷ []) (length journal) n e.answer in
          absurd (a.none_since (length journal) e.answer low (subst P (sym same) (comes_now c journal e bytes reading event reads_it))))
      | inr other ↦ others r other ∙ was.1
    ]

-- the one that is sent now
new_is_out : (c : Connection) (journal : List Entry) (t : Table) (e : Entry) (u : Table) → Went c journal t e u → UsesLaw u.requests → (r : ℕ) (a : Awaited c (journal ++ e ∷ []) r) → e.event ≡ events.TakeSend → e.answer ≡ answers.Sent a.id → Turn c e t.requests u.requests → IsOut r u.requests
new_is_out c journal t e u w law r a event answer (turns.quiet same no_send no_frame) = absurd (no_send event)
new_is_out c journal t e u w law r a event answer (turns.sends row here queued is told less others none) =
    let same : row.id ≡ a.id = sent_ids row.id a.id (sym told ∙ answer) in
    let P : ℕ → Type 0 = Submitted journal in
    let old = subst P same (row_law c journal t row w.before here).law.request in
    let own = own_request c journal t row a.id w.before w.rows here same old in
    let new = newer journal e a.id old (submitted_low journal a.id old) in
    let one_of = same_request (journal ++ e ∷ []) a.id new.0 a.request (w.rows_after.accepted_once a.id new.0 a.request) in
    let refers : row.reference ≡ r = sym own.0 ∙ new.1.reference ∙ one_of.reference ∙ a.refers in
    let parts = uses_parts row.reference t.requests in
    let once = w.standing.uses.once row.reference in
    let inside = used_in t.requests row.reference w.standing.uses (let some = queued_in t.requests row here queued in omega arith) in
    let Q : ℕ → Type 0 = λ n. IsOut n u.requests in
    subst Q refers (in_range c journal t e u w row.reference ∙ inside, omega arith)
new_is_out c journal t e u w law r a event answer (turns.reads bytes reading is reads_it not_out others) = event_not events.TakeSend (events.Frame bytes) is_send refl refl (sym event ∙ is)

awaited_more : (c : Connection) (journal : List Entry) (t : Table) (e : Entry) (u : Table) → Went c journal t e u → UsesLaw u.requests → (r : ℕ) → Awaited c (journal ++ e ∷ []) r → IsOut r u.requests
awaited_more c journal t e u w law r a =
    let turn = (turn_of c journal t e u w).turn in
    elim (cases_lt a.sent (length journal)) [
      | inl low ↦ (
          let was = w.standing.awaited r (old_awaited c journal t e u w r a low) in
          (in_range c journal t e u w r ∙ was.0, old_is_out c journal t e u w r a low was turn))
      | inr high ↦ (
          let both = sent_last journal e a.id a.sent a.sent_at high in
          new_is_out c journal t e u w law r a both.0 both.1 turn)
    ]

was_awaited : (c : Connection) (journal : List Entry) (t : Table) (e : Entry) (u : Table) → Went c journal t e u → (r : ℕ) → IsOut r u.requests → slack r u.requests ≡ slack r t.requests → Awaited c journal r
was_awaited c journal t e u w r out same = w.standing.out r (sym (in_range c journal t e u w r) ∙ out.0, sym same ∙ out.1)

out_awaited : (c : Connection) (journal : List Entry) (t : Table) (e : Entry) (u : Table) → Went c journal t e u → (r : ℕ) → IsOut r u.requests → Turn c e t.requests u.requests → Awaited c (journal ++ e ∷ []) r
out_awaited c journal t e u w r out (turns.quiet same no_send no_frame) =
    still_awaited c journal e r (was_awaited c journal t e u w r out (same r))
    (λ k answer f high. let x = frame_last c journal e k r answer f high in no_frame x.0 x.1 x.2 x.3)
out_awaited c journal t e u w r out (turns.sends row here queued event told less others none) =
    elim (cases_eq r row.reference) [
      | inl same ↦ (
          let law = (row_law c journal t row w.before here).law in
          let new = newer journal e row.id law.request (submitted_low journal row.id law.request) in
          record {
            id = row.id;
            request = new.0;
            refers = sym new.1.reference ∙ law.reference ∙ sym same;
            sent = length journal;
            sent_at = sent_at_now journal e row.id event told;
            none_since = λ k answer after f. (let under = comes_low c (journal ++ e ∷ []) k r answer f in let long = longer journal e in absurd (omega arith));
          })
      | inr other ↦ still_awaited c journal e r (was_awaited c journal t e u w r out (others r other))
          (λ k answer f high. let x = frame_last c journal e k r answer f high in event_not events.TakeSend (events.Frame x.0) is_send refl refl (sym event ∙ x.2))
    ]
out_awaited c journal t e u w r out (turns.reads bytes reading event reads_it not_out others) =
    elim (cases_eq r (c.wire.reference_of bytes)) [
      | inl same ↦ (
          let inside : is_reference (c.wire.reference_of bytes) u.requests ≡ true = ap (λ n. is_reference n u.requests) (sym same) ∙ out.0 in
          let empty : slack (c.wire.reference_of bytes) u.requests ≡ 0 = ap (λ n. slack n u.requests) (sym same) ∙ out.1 in
          absurd (not_out inside empty))
      | inr other ↦ still_awaited c journal e r (was_awaited c journal t e u w r out (others r other))
          (λ k answer f high.
          let x = frame_last c journal e k r answer f high in
          let frames : bytes ≡ x.0 = frame_bytes bytes x.0 (sym event ∙ x.2) in
          other (sym x.4 ∙ sym (ap c.wire.reference_of frames)))
    ]

-- ---- the walk

went_on : (c : Connection) (journal : List Entry) (t : Table) (e : Entry) (u : Table) → Went c journal t e u → Standing c (journal ++ e ∷ []) u
went_on c journal t e u w =
    let law = (turn_of c journal t e u w).uses w.standing.uses in
    record {
      live = live_more c journal t e u w;
      ended = λ row o here ended. ended_more c journal t e u w (sent_accepted_more c journal t e u w) row o here ended (came_to c journal t e u w row here);
      sent_accepted = sent_accepted_more c journal t e u w;
      unsent = unsent_more c journal t e u w;
      uses = law;
      awaited = awaited_more c journal t e u w law;
      out = λ r out. out_awaited c journal t e u w r out (turn_of c journal t e u w).turn;
    }

opening_uses : (c : Connection) → IsSettings c.settings → UsesLaw (table_of c []).requests
unfolding table_of
opening_uses c s =
    let table = opening_table {X = Handed} {E = Outcome} c.settings.references c.settings.window (record { some_references = s.references; some_window = s.window }) in
    record { once = table.once; within = table.within }

range_full : (n r : ℕ) → (nat_le 1 r && nat_le r n) ≡ true → count_by (is_number r) (range_with_len 1 n) ≡ 0 → ⊥
range_full n r inside none = let all = count_range 1 n r in grind (arith, nat_tests)

nothing_out : {Y : Type 0} (c : Connection) (r : ℕ) → IsOut r (table_of c []).requests → Y
unfolding table_of
nothing_out c r out = let all = out.1 in absurd (range_full c.settings.references r out.0 (omega arith))

nowhere : {Y : Type 0} (k : ℕ) (e : Entry) → slice_get [] k ≡ Some e → Y
nowhere k e at = absurd (cc)

no_rows : {Y : Type 0} (c : Connection) (row : Row Handed Outcome) → In row (table_of c []).requests.rows → Y
unfolding table_of
no_rows c row h = absurd h

opening_standing : (c : Connection) → IsSettings c.settings → Standing c [] (table_of c [])
opening_standing c s = record {
  live = λ row id here live same r j kind after x. no_rows c row here;
  ended = λ row o here ended. no_rows c row here;
  sent_accepted = λ id k x. nowhere k _ x.stands;
  unsent = λ row id k here queued same x. no_rows c row here;
  uses = opening_uses c s;
  awaited = λ r a. nowhere a.sent _ a.sent_at.stands;
  out = λ r out. nothing_out c r out;
}

-- all that is known after a walk
pub record Knows (c : Connection) (journal : List Entry) (t : Table) : Type 0 where
  pub rows : Known c journal t
  pub ids : Facts journal t
  pub standing : Standing c journal t

went_to : (c : Connection) (journal : List Entry) (e : Entry) (u : Table) → Standing c journal (table_of c journal) → Known c journal (table_of c journal) → Facts journal (table_of c journal) → Known c (journal ++ e ∷ []) (table_of c (journal ++ e ∷ [])) → Facts (journal ++ e ∷ []) (table_of c (journal ++ e ∷ [])) → step c (table_of c journal) e.actor e.event ≡ Some (u, e.answer) → Standing c (journal ++ e ∷ []) (table_of c (journal ++ e ∷ []))
went_to c journal e u standing before rows after rows_after stepped =
    let is = table_more c journal e u stepped in
    let P : Table → Type 0 = Standing c (journal ++ e ∷ []) in
    let Q : Table → Type 0 = Known c (journal ++ e ∷ []) in
    let R : Table → Type 0 = Facts (journal ++ e ∷ []) in
    subst P (sym is) (went_on c journal (table_of c journal) e u (record {
      before = before;
      after = subst Q is after;
      rows = rows;
      rows_after = subst R is rows_after;
      standing = standing;
      stepped = stepped;
    }))

standing_of : (c : Connection) (journal : List Entry) → IsSettings c.settings → Walked c journal → Standing c journal (table_of c journal)
standing_of c _ s begun = opening_standing c s
standing_of c _ s (walked journal e u before stepped) =
    let now = walked journal e u before stepped in
    went_to c journal e u (standing_of c journal s before) (known c journal s before) (facts c journal before) (known c (journal ++ e ∷ []) s now) (facts c (journal ++ e ∷ []) now) stepped

pub knows : (c : Connection) (journal : List Entry) → IsSettings c.settings → Walked c journal → Knows c journal (table_of c journal)
knows c journal s w = record { rows = known c journal s w; ids = facts c journal w; standing = standing_of c journal s w }

-- after each number of entries
pub knows_front : (c : Connection) (journal : List Entry) (k : ℕ) (e : Entry) → IsSettings c.settings → Walked c journal → slice_get journal k ≡ Some e → Knows c (take k journal) (table_of c (take k journal))
knows_front c journal k e s w at = let low = get_low journal k e at in knows c (take k journal) s (walked_before c journal k w (omega arith))
