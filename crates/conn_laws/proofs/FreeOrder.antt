-- The free list is a queue: what is freed goes to its back, and what is drawn is taken from its front. So the first has been free
-- the longest.
use Rattle.std.proofs.Common.{◌≡◌, ◌⊎◌, inl, inr, ℕ, zero, suc, ◌+◌, ◌<◌, ◌≤◌, Bool, true, false, List, [], ◌∷◌, ◌++◌, length, take, refl, sym, ap, subst, ◌∙◌, arith, Option, Some, None, Ok, Err, append_assoc}
use Rattle.std.specs.Prelude.{Result, count_by, is_some, nat_lt}
use Rattle.std.specs.List.{range_with_len, slice_get}
use Rattle.std.proofs.lemmas.Bool.{eq-eqb, eqb-true}
use Rattle.std.proofs.lemmas.List.{append-nil}
use Rattle.lease_core.specs.LeaseSteps.{asked_answer}
use Rattle.lease_core.specs.LeaseTables.{due_numbers, state_of, waiters_limit}
use Rattle.lease_core.specs.declared.answers.LeaseAnswer.{LeaseAnswer}
use Rattle.txn_core.specs.RowLaws.{count_cons, one}
use Rattle.txn_core.specs.RowSteps.{awaiting, references_of}
use Rattle.txn_core.specs.RowTables.{Row, any_row, has_id, has_lease, is_due, is_live_and, is_number, is_quarantined, is_queued_and}
use Rattle.node_tree.specs.declared.readings.Reading.{Reading}
use Rattle.wire_frames.specs.WireMeaning.{WireMeaning}
use Rattle.wire_frames.specs.declared.asks.Ask.{Ask}
use Rattle.wire_frames.specs.declared.ends.EndKind.TheVariants as kinds
use Rattle.wire_frames.specs.declared.ends.FrameWhy.{FrameWhy}
use Rattle.wire_frames.specs.declared.ends.Outcome.{Outcome}
use Rattle.wire_frames.specs.declared.ends.Reason.{Reason}
use Rattle.wire_frames.specs.declared.ends.Reason.TheVariants as reasons
use Rattle.conn_core.specs.Journals.{table_of}
use Rattle.conn_core.specs.Steps.{Request, Started, arrived, ask_lease, asked_entry, cancelled, close, closed_by, collect, counted, end_all, end_leases, received, release, released, step, submit, take_send, ticked, with_lease}
use Rattle.conn_core.specs.Tables.{Connection, Handed, IsSettings, Requests, Table, at_moment}
use Rattle.conn_core.specs.declared.answers.AskRefusal.TheVariants as asks
use Rattle.conn_core.specs.declared.answers.LeaseRefusal.TheVariants as lease_refusals
use Rattle.conn_core.specs.declared.answers.Sending.{Sending}
use Rattle.conn_core.specs.declared.entries.Answer.{Answer}
use Rattle.conn_core.specs.declared.entries.Answer.TheVariants as answers
use Rattle.conn_core.specs.declared.entries.Entry.{Entry}
use Rattle.conn_core.specs.declared.entries.Event.{Event}
use Rattle.conn_core.specs.declared.entries.Event.TheVariants as events
use Rattle.conn_core.proofs.EntryLemmas.{walked_before}
use Rattle.conn_core.proofs.FrameLemmas.{settled_if}
use Rattle.conn_core.proofs.StepLaws.{Walked, close_table, collect_is_table, if_took, open_took, queues, sends_as, take_whole, took, walked_steps}
use Rattle.conn_laws.specs.Drawing.{FreeSince, IsFirstFree}
use Rattle.conn_laws.proofs.Fates.{cancel_rows_are, frame_parts, tick_rows_are}
use Rattle.conn_laws.proofs.Fronts.{free_few, free_is, is_free}
use Rattle.conn_laws.proofs.Members.{In, count_in, in_count}

-- ---- what an event does to the free list

pub data Queues (old new : List ℕ) : Type 0 where
  -- numbers go to the back, or none does
  grows : (more : List ℕ) → new ≡ old ++ more → Queues old new
  -- the first is drawn
  draws : (first : ℕ) → old ≡ first ∷ new → Queues old new

abbrev free_of : Table → List ℕ
free_of t = t.requests.free

same_queue : (t v u : Table) → v ≡ u → Queues (free_of t) (free_of v) → Queues (free_of t) (free_of u)
same_queue t v u is h = let P : Table → Type 0 = λ x. Queues (free_of t) (free_of x) in subst P is h

stays_queue : (ns : List ℕ) → Queues ns ns
stays_queue ns = grows [] (sym (append-nil ns))

leases_grow : (numbers : List ℕ) (t : Requests) → (more : List ℕ) × ((end_leases numbers t).free ≡ t.free ++ more)
leases_grow [] t = ([], sym (append-nil t.free))
leases_grow (n ∷ ns) t =
    let back = references_of (is_queued_and (has_lease n)) t.rows in
    let rest = leases_grow ns (end_all (has_lease n) kinds.LeaseGone t) in
    (back ++ rest.0, rest.1 ∙ append_assoc t.free back rest.0)

without_queue : (t : Table) (reference : ℕ) (b : Bool) → Queues (free_of t) (free_of (settled_if reference (counted t) b).0)
without_queue t reference true = grows (reference ∷ []) refl
without_queue t reference false = stays_queue (free_of t)

arrived_queue : (wire : WireMeaning) (t : Table) (reference : ℕ) (reading : Reading) (found : Option (Row Handed Outcome)) → Queues (free_of t) (free_of (arrived wire reference reading (counted t) found).0)
arrived_queue wire t reference reading None = without_queue t reference (is_quarantined reference t.requests)
arrived_queue wire t reference reading (Some row) = grows (references_of (is_live_and (has_id row.id)) t.requests.rows) refl

received_queue : (wire : WireMeaning) (t : Table) (bytes : List ℕ) (reading : Result Reading FrameWhy) → Queues (free_of t) (free_of (received wire t bytes reading).0)
received_queue wire t bytes (Ok reading) = arrived_queue wire t (wire.reference_of bytes) reading (awaiting (wire.reference_of bytes) t.requests)
received_queue wire t bytes (Err why) = grows (references_of (is_queued_and any_row) t.requests.rows) refl

ask_queue : (c : Connection) (t u : Table) (actor now : ℕ) (answer : Answer) → step c t actor (events.AskLease now) ≡ Some (u, answer) → Queues (free_of t) (free_of u)
ask_queue c t u actor now answer e =
    let took_it = took asked_entry (ask_lease t actor now) u answer e in
    let next : Table × LeaseAnswer = (with_lease actor (at_moment now t), asked_answer t.leases) in
    let opened = open_took asks.Closed t.closed _ (u, took_it.given) took_it.is in
    let both = if_took (nat_lt (length t.leases.waiting) waiters_limit) next asks.QueueFull (u, took_it.given) opened.1 in
    same_queue t (with_lease actor (at_moment now t)) u both.1 (stays_queue (free_of t))

release_queue : (c : Connection) (t u : Table) (actor number now : ℕ) (answer : Answer) → step c t actor (events.Release number now) ≡ Some (u, answer) → Queues (free_of t) (free_of u)
release_queue c t u actor number now answer e =
    let took_it = took (λ (x : Unit {0}). answers.Released) (release t actor number now) u answer e in
    let next : Table × Unit {0} = (released number (at_moment now t), tt) in
    let opened = open_took lease_refusals.Closed t.closed _ (u, took_it.given) took_it.is in
    let both = if_took (is_some (state_of t.leases actor number)) next lease_refusals.NoLease (u, took_it.given) opened.1 in
    same_queue t (released number (at_moment now t)) u both.1 (grows (references_of (is_queued_and (has_lease number)) t.requests.rows) refl)

submit_queue : (c : Connection) (t u : Table) (actor lease : ℕ) (ask : Ask) (timeout now : ℕ) (answer : Answer) → step c t actor (events.Submit lease ask timeout now) ≡ Some (u, answer) → Queues (free_of t) (free_of u)
submit_queue c t u actor lease ask timeout now answer e =
    let q : Request = record { actor = actor; lease = lease; ask = ask; timeout = timeout; moment = now } in
    let took_it = took (λ (s : Started). answers.Accepted s.id s.reference s.frame) (submit c.wire t q) u answer e in
    let queued = queues c.wire t q u took_it.given took_it.is in
    same_queue t _ u (sym queued.table) (draws queued.reference queued.free)

send_queue : (c : Connection) (t u : Table) (actor : ℕ) (answer : Answer) → step c t actor events.TakeSend ≡ Some (u, answer) → Queues (free_of t) (free_of u)
send_queue c t u actor answer e =
    let took_it = took (λ (s : Sending). answers.Sent s.id) (take_send t) u answer e in
    let s = sends_as t u took_it.given took_it.is in
    same_queue t _ u (sym s.table) (stays_queue (free_of t))

collect_queue : (c : Connection) (t u : Table) (actor id : ℕ) (answer : Answer) → step c t actor (events.Collect id) ≡ Some (u, answer) → Queues (free_of t) (free_of u)
collect_queue c t u actor id answer e =
    let took_it = took (λ (o : Outcome). answers.Collected o.kind) (collect t actor id) u answer e in
    same_queue t _ u (sym (collect_is_table t u actor id took_it.given took_it.is).0) (stays_queue (free_of t))

tick_queue : (t : Table) (now : ℕ) → Queues (free_of t) (free_of (ticked now (at_moment now t)))
tick_queue t now =
    let expired = end_all (is_due now) kinds.Expired t.requests in
    let back = references_of (is_queued_and (is_due now)) t.requests.rows in
    let rest = leases_grow (due_numbers now t.leases.held) expired in
    grows (back ++ rest.0) (rest.1 ∙ append_assoc (free_of t) back rest.0)

close_queue : (t u : Table) (reason : Reason) (given : Unit {0}) → close t reason ≡ Ok (u, given) → Queues (free_of t) (free_of u)
close_queue t u reason given is = same_queue t (closed_by reason t) u (sym (close_table t u reason given is).1) (grows (references_of (is_queued_and any_row) t.requests.rows) refl)

queue : (c : Connection) (t u : Table) (actor : ℕ) (event : Event) (answer : Answer) → step c t actor event ≡ Some (u, answer) → Queues (free_of t) (free_of u)
queue c t u actor (events.AskLease now) answer e = ask_queue c t u actor now answer e
queue c t u actor (events.Release number now) answer e = release_queue c t u actor number now answer e
queue c t u actor (events.Submit lease ask timeout now) answer e = submit_queue c t u actor lease ask timeout now answer e
queue c t u actor events.TakeSend answer e = send_queue c t u actor answer e
queue c t u actor (events.Frame bytes) answer e = same_queue t _ u (frame_parts c t u actor bytes answer e).0 (received_queue c.wire t bytes (c.wire.reading_of bytes))
queue c t u actor (events.Cancel id) answer e = same_queue t (cancelled id t) u (cancel_rows_are c t u actor id answer e) (grows (references_of (is_queued_and (has_id id)) t.requests.rows) refl)
queue c t u actor (events.Collect id) answer e = collect_queue c t u actor id answer e
queue c t u actor (events.Tick now) answer e = same_queue t (ticked now (at_moment now t)) u (tick_rows_are c t u actor now answer e) (tick_queue t now)
queue c t u actor (events.Close reason) answer e =
    let took_it = took (λ (x : Unit {0}). answers.Closed) (close t reason) u answer e in
    close_queue t u reason took_it.given took_it.is
queue c t u actor events.Shutdown answer e =
    let took_it = took (λ (x : Unit {0}). answers.Closed) (close t reasons.Asked) u answer e in
    close_queue t u reasons.Asked took_it.given took_it.is

-- ---- one number ahead of another

-- the first number stands ahead of the other in the list, or is it
abbrev pub Ahead : ℕ → ℕ → List ℕ → Type 0
Ahead first other [] = ⊥
Ahead first other (n ∷ ns) = ((n ≡ first) × In other (n ∷ ns)) ⊎ Ahead first other ns

ahead_first : (first other : ℕ) (ns : List ℕ) → Ahead first other ns → In first ns
ahead_first first other [] h = absurd h
ahead_first first other (n ∷ ns) (inl both) = inl both.0
ahead_first first other (n ∷ ns) (inr h) = inr (ahead_first first other ns h)

ahead_other : (first other : ℕ) (ns : List ℕ) → Ahead first other ns → In other ns
ahead_other first other [] h = absurd h
ahead_other first other (n ∷ ns) (inl both) = both.1
ahead_other first other (n ∷ ns) (inr h) = inr (ahead_other first other ns h)

counts_own : (n m : ℕ) (ns : List ℕ) → n ≡ m → In m ns → 2 ≤ count_by (is_number m) (n ∷ ns)
counts_own n m ns same h =
    let all = count_cons (is_number m) n ns in
    let here : one (is_number m n) ≡ 1 = ap one (eq-eqb n m same) in
    let more = count_in (is_number m) ns m h (eq-eqb m m refl) in
    omega arith

-- where the other was in the list before more came, so was the first, ahead of it
ahead_before : (first other : ℕ) (ns more : List ℕ) → count_by (is_number other) (ns ++ more) ≤ 1 → In other ns → Ahead first other (ns ++ more) → Ahead first other ns
ahead_before first other [] more once there h = absurd there
ahead_before first other (n ∷ ns) more once there (inl both) = inl (both.0, there)
ahead_before first other (n ∷ ns) more once (inl same) (inr h) = let twice = counts_own n other (ns ++ more) same (ahead_other first other (ns ++ more) h) in absurd (omega arith)
ahead_before first other (n ∷ ns) more once (inr there) (inr h) = inr (ahead_before first other ns more (let all = count_cons (is_number other) n (ns ++ more) in omega arith) there h)

ahead_step : (first other : ℕ) (old new : List ℕ) → Queues old new → count_by (is_number other) new ≤ 1 → In other old → Ahead first other new → Ahead first other old
ahead_step first other old new (grows more is) once there h =
    let P : List ℕ → Type 0 = Ahead first other in
    let few = ap (count_by (is_number other)) is in
    ahead_before first other old more (omega arith) there (subst P is h)
ahead_step first other old new (draws n is) once there h = let P : List ℕ → Type 0 = Ahead first other in subst P (sym is) (inr h)

-- ---- over the journal

abbrev free_at : Connection → List Entry → ℕ → List ℕ
free_at c journal k = free_of (table_of c (take k journal))

entry_at : (xs : List Entry) (k : ℕ) → k < length xs → (e : Entry) × (slice_get xs k ≡ Some e)
entry_at [] k low = absurd (omega arith)
entry_at (x ∷ xs) zero low = (x, refl)
entry_at (x ∷ xs) (suc k) low = entry_at xs k (omega arith)

in_free : (c : Connection) (journal : List Entry) (reference m : ℕ) → IsSettings c.settings → Walked c journal → m ≤ length journal → In reference (free_at c journal m) → 1 ≤ count_by (is_number reference) (free_at c journal m)
in_free c journal reference m s w low h = count_in (is_number reference) (free_at c journal m) reference h (eq-eqb reference reference refl)

since_in : (c : Connection) (journal : List Entry) (other n m : ℕ) → IsSettings c.settings → Walked c journal → FreeSince c journal other n → n ≤ m → m ≤ length journal → In other (free_at c journal m)
since_in c journal other n m s w since low high =
    let x = in_count (is_number other) (free_at c journal m) (is_free c (take m journal) other s (walked_before c journal m w high) (since m low high)) in
    let P : ℕ → Type 0 = λ r. In r (free_at c journal m) in
    subst P (eqb-true x.0 other x.2) x.1

-- one entry back
back_one : (c : Connection) (journal : List Entry) (first other k : ℕ) → IsSettings c.settings → Walked c journal → k < length journal → In other (free_at c journal k) → Ahead first other (free_at c journal (k + 1)) → Ahead first other (free_at c journal k)
back_one c journal first other k s w low there h =
    let e = entry_at journal k low in
    let t = table_of c (take k journal) in
    let u = table_of c (take (k + 1) journal) in
    ahead_step first other (free_of t) (free_of u) (queue c t u e.0.actor e.0.event e.0.answer (walked_steps c journal w k e.0 e.1))
    (free_few c (take (k + 1) journal) other s (walked_before c journal (k + 1) w (omega arith))) there h

-- so many entries back, while the other was free
back : (c : Connection) (journal : List Entry) (first other : ℕ) (d k n m : ℕ) → IsSettings c.settings → Walked c journal → FreeSince c journal other n → n ≤ k → m ≡ k + d → m ≤ length journal → Ahead first other (free_at c journal m) → Ahead first other (free_at c journal k)
back c journal first other zero k n m s w since low is high h = let same : m ≡ k = omega arith in let P : ℕ → Type 0 = λ x. Ahead first other (free_at c journal x) in subst P same h
back c journal first other (suc d) k n m s w since low is high h =
    let next = back c journal first other d (k + 1) n m s w since (omega arith) (omega arith) high h in
    back_one c journal first other k s w (omega arith) (since_in c journal other n k s w since low (omega arith)) next

difference : (k n : ℕ) → k ≤ n → (d : ℕ) × (n ≡ k + d)
difference zero n low = (n, omega arith)
difference (suc k) zero low = absurd (omega arith)
difference (suc k) (suc n) low = let rest = difference k n (omega arith) in let is = rest.1 in (rest.0, omega arith)

-- what is ahead of another in the free list was so while the other was free
ahead_since : (c : Connection) (journal : List Entry) (first other n : ℕ) → IsSettings c.settings → Walked c journal → Ahead first other (table_of c journal).requests.free → FreeSince c journal other n → (k : ℕ) → n ≤ k → k ≤ length journal → Ahead first other (free_at c journal k)
ahead_since c journal first other n s w ahead since k above under =
    let d = difference k (length journal) under in
    let whole : free_at c journal (length journal) ≡ (table_of c journal).requests.free = ap (λ (xs : List Entry). free_of (table_of c xs)) (take_whole journal (length journal) refl) in
    let P : List ℕ → Type 0 = Ahead first other in
    back c journal first other d.0 k n (length journal) s w since above d.1 (omega arith) (subst P (sym whole) ahead)

-- so it was free then
longer_free : (c : Connection) (journal : List Entry) (first other n : ℕ) → IsSettings c.settings → Walked c journal → Ahead first other (table_of c journal).requests.free → FreeSince c journal other n → FreeSince c journal first n
longer_free c journal first other n s w ahead since = λ m above under.
    free_is c (take m journal) first s (walked_before c journal m w under)
    (in_free c journal first m s w under (ahead_first first other (free_at c journal m) (ahead_since c journal first other n s w ahead since m above under)))

-- the first of the free list is ahead of each
first_ahead : (c : Connection) (journal : List Entry) (first other n : ℕ) (rest : List ℕ) → IsSettings c.settings → Walked c journal → (table_of c journal).requests.free ≡ first ∷ rest → n ≤ length journal → FreeSince c journal other n → Ahead first other (table_of c journal).requests.free
first_ahead c journal first other n rest s w is low since =
    let whole : free_at c journal (length journal) ≡ first ∷ rest = ap (λ (xs : List Entry). free_of (table_of c xs)) (take_whole journal (length journal) refl) ∙ is in
    let P : List ℕ → Type 0 = In other in
    let Q : List ℕ → Type 0 = Ahead first other in
    subst Q (sym is) (inl (refl, subst P whole (since_in c journal other n (length journal) s w since low (omega arith))))

in_range_above : (low n r : ℕ) → In r (range_with_len low n) → low ≤ r
in_range_above low zero r h = absurd h
in_range_above low (suc n) r (inl is) = omega arith
in_range_above low (suc n) r (inr h) = let rest = in_range_above (low + 1) n r h in omega arith

ahead_rises : (first other low n : ℕ) → Ahead first other (range_with_len low n) → first ≤ other
ahead_rises first other low zero h = absurd h
ahead_rises first other low (suc n) (inl both) = let is = both.0 in let above = in_range_above low (suc n) other both.1 in omega arith
ahead_rises first other low (suc n) (inr h) = ahead_rises first other (low + 1) n h

opening_rises : (c : Connection) (journal : List Entry) (first other : ℕ) → Ahead first other (free_at c journal 0) → first ≤ other
unfolding table_of
opening_rises c journal first other h = ahead_rises first other 1 c.settings.references h

-- the first of the free list is the first free one, by places
pub first_free : (c : Connection) (journal : List Entry) (first : ℕ) (rest : List ℕ) → IsSettings c.settings → Walked c journal → (table_of c journal).requests.free ≡ first ∷ rest → IsFirstFree c journal first
first_free c journal first rest s w is =
    let counts = ap (count_by (is_number first)) is ∙ count_cons (is_number first) first rest in
    let own : one (is_number first first) ≡ 1 = ap one (eq-eqb first first refl) in
    record {
      free = free_is c journal first s w (omega arith);
      longest = λ other n low since. longer_free c journal first other n s w (first_ahead c journal first other n rest s w is low since) since;
      least = λ other since.
          let ahead = first_ahead c journal first other 0 rest s w is (omega arith) since in
          opening_rises c journal first other (ahead_since c journal first other 0 s w ahead since 0 (omega arith) (omega arith));
    }

-- ---- the order of the whole list

get_in : (xs : List ℕ) (i x : ℕ) → slice_get xs i ≡ Some x → In x xs
get_in [] i x at = absurd (cc)
get_in (y ∷ ys) zero x at = inl (cc)
get_in (y ∷ ys) (suc i) x at = inr (get_in ys i x at)

ahead_places : (xs : List ℕ) (i j first other : ℕ) → i ≤ j → slice_get xs i ≡ Some first → slice_get xs j ≡ Some other → Ahead first other xs
ahead_places [] i j first other low one two = absurd (cc)
ahead_places (x ∷ xs) zero j first other low one two = let same : x ≡ first = cc in inl (same, get_in (x ∷ xs) j other two)
ahead_places (x ∷ xs) (suc i) zero first other low one two = absurd (omega arith)
ahead_places (x ∷ xs) (suc i) (suc j) first other low one two = inr (ahead_places xs i j first other (omega arith) one two)

pub free_in_order : (c : Connection) (journal : List Entry) (i j first other n : ℕ) → IsSettings c.settings → Walked c journal → i ≤ j → slice_get (table_of c journal).requests.free i ≡ Some first → slice_get (table_of c journal).requests.free j ≡ Some other → FreeSince c journal other n → FreeSince c journal first n
free_in_order c journal i j first other n s w low one two since = longer_free c journal first other n s w (ahead_places (table_of c journal).requests.free i j first other low one two) since
