-- What every call of a connection promises, from what it does to what is kept.
use Rattle.std.proofs.Common.{◌≡◌, inl, inr, ℕ, ◌+◌, Bool, true, false, List, [], ◌∷◌, ◌++◌, length, refl, sym, ap, ◌∙◌, Option, Some, None, Ok, Err}
use Rattle.std.specs.Prelude.{Result, ◌↔◌, IfSome, IsNone, OnErr}
use Rattle.std.specs.List.{slice_get}
use Rattle.std.specs.Vec.{vec_capacity}
use Rattle.txn_core.specs.RowSteps.{IsGivenOrNoMemory, answer_of}
use Rattle.wire_frames.specs.WireMeaning.{WireMeaning}
use Rattle.wire_frames.specs.declared.ends.Reason.{Reason}
use Rattle.conn_core.specs.Causes.{ClosesWith, NoneCloses}
use Rattle.conn_core.specs.Entries.{closing_reason}
use Rattle.conn_core.specs.Journals.{table_of, turn_if, wears, worn_entry}
use Rattle.conn_core.specs.KeptStates.{ClosesAs, Does, DoesOrNoMemory, IsState}
use Rattle.conn_core.specs.States.{Acts, ActsOrNoMemory, GoesOn, Grows, State, connection_of, grown}
use Rattle.conn_core.specs.Steps.{when_open}
use Rattle.conn_core.specs.Tables.{Connection, Table}
use Rattle.conn_core.specs.declared.entries.Answer.{Answer}
use Rattle.conn_core.specs.declared.entries.Entry.{Entry}
use Rattle.conn_core.specs.declared.entries.Event.{Event}
use Rattle.conn_core.specs.declared.kept.Kept.{Kept}
use Rattle.conn_core.specs.declared.settings.Key.{Key}
use Rattle.conn_core.proofs.SoundLemmas.{state_short}

-- the state that contracts see of a key and what is kept
abbrev pub seen : {W : Type 0} → Key W → Kept → State W
seen key kept = record { key = key; journal = kept.journal.items }

-- ---- how a state goes on

grows_if : (actor : ℕ) (old new : List Entry) (e : Entry) (b : Bool) → e.actor ≡ actor → new ≡ old ++ turn_if b e → Grows actor old new
grows_if actor old new e true same is = inr (inr (e, same, is ∙ ap (λ a. old ++ e ∷ worn_entry a ∷ []) same))
grows_if actor old new e false same is = inr (inl (e, same, is))

pub grown_grows : (c : Connection) (old new : List Entry) (actor : ℕ) (event : Event) (o : Option (Table × Answer)) → new ≡ grown c old actor event o → Grows actor old new
grown_grows c old new actor event None is = inl is
grown_grows c old new actor event (Some p) is =
    let e : Entry = record { actor = actor; event = event; answer = p.1 } in
    grows_if actor old new e (wears c.settings (length old + 1) p.0) refl is

pub goes_by : {W : Type 0} (meaning : W → WireMeaning) (key : Key W) (old new : Kept) (actor : ℕ) → Grows actor old.journal.items new.journal.items → IsState (connection_of meaning key) new → GoesOn meaning actor (seen key old) (seen key new)
goes_by meaning key old new actor grows state = record {
  key = refl;
  grows = grows;
  legal = state.legal;
  short = state_short (connection_of meaning key) new.journal.items new.table (vec_capacity new.journal) state;
}

pub acts_by : {W A R : Type 0} (meaning : W → WireMeaning) (key : Key W) (old new : Kept) (actor : ℕ) (event : Event) (wanted result : Result A R) → Does (connection_of meaning key) actor event wanted old new result → Acts meaning actor event wanted (seen key old) (seen key new) result
acts_by {W} meaning key old new actor event wanted result d =
    let c = connection_of meaning key in
    record {
      answer = d.answer;
      state = ap (λ (j : List Entry). let s : State W = record { key = key; journal = j } in s) d.journal;
      goes_on = goes_by meaning key old new actor (grown_grows c old.journal.items new.journal.items actor event _ d.journal) d.state;
    }

pub acts_or : {W A R : Type 0} (missing : R) (meaning : W → WireMeaning) (key : Key W) (old new : Kept) (actor : ℕ) (event : Event) (wanted result : Result A R) → DoesOrNoMemory missing (connection_of meaning key) actor event wanted old new result → ActsOrNoMemory missing meaning actor event wanted (seen key old) (seen key new) result
acts_or {W} missing meaning key old new actor event wanted result d =
    let c = connection_of meaning key in
    let state_with : List Entry → State W = λ j. record { key = key; journal = j } in
    record {
      answer = d.answer;
      state = elim d.journal [ inl both ↦ inl (both.0, ap state_with both.1) | inr is ↦ inr (ap state_with is) ];
      goes_on = goes_by meaning key old new actor (elim d.journal [ inl both ↦ inl both.1 | inr is ↦ grown_grows c old.journal.items new.journal.items actor event _ is ]) d.state;
    }

pub unchanged_by : {W A R : Type 0} (key : Key W) (old new : Kept) (result : Result A R) → OnErr result (new.journal.items ≡ old.journal.items) → OnErr result (seen key new ≡ seen key old)
unchanged_by key old new (Ok a) same = tt
unchanged_by {W} key old new (Err r) same = ap (λ (j : List Entry). let s : State W = record { key = key; journal = j } in s) same

-- ---- closing

-- the table of the journal is closed exactly as an entry closes it
pub closed_as : (c : Connection) (kept : Kept) → IsState c kept → (reason : Reason) → ((table_of c kept.journal.items).closed ≡ Some reason) ↔ ClosesWith kept.journal.items reason
closed_as c kept state reason =
    let same = state.stands.closed in
    (λ is. (state.closes reason).0 (same ∙ is), λ w. sym same ∙ (state.closes reason).1 w)

none_case : (journal : List Entry) (closed : Option Reason) (k : ℕ) (e : Entry) (o : Option Reason) → ClosesAs journal closed → closed ≡ None → slice_get journal k ≡ Some e → closing_reason e ≡ o → o ≡ None
none_case journal closed k e None closes none at is = refl
none_case journal closed k e (Some reason) closes none at is = let shut = (closes reason).1 (k, e, at, is) in absurd (cc)

pub none_closes : (journal : List Entry) (closed : Option Reason) → ClosesAs journal closed → closed ≡ None → NoneCloses journal
none_closes journal closed closes none = λ k e at. none_case journal closed k e (closing_reason e) closes none at refl

pub closed_none : (journal : List Entry) (closed : Option Reason) → ClosesAs journal closed → NoneCloses journal → closed ≡ None
closed_none journal None closes none = refl
closed_none journal (Some reason) closes none = let w = (closes reason).0 refl in let open_entry = none w.0 w.1 w.2 in let shut = w.3 in absurd (cc)

-- what is answered first of all
pub shut : {A R : Type 0} (refusal : Reason → R) (closed : Option Reason) (next : Result (Table × A) R) (reason : Reason) → closed ≡ Some reason → answer_of (when_open refusal closed next) ≡ Err (refusal reason)
shut refusal closed next reason is = ap (λ o. answer_of (when_open refusal o next)) is

-- an answer that isn't want of memory is the wanted one
pub given_refused : {A R : Type 0} (missing r : R) (result wanted : Result A R) → (r ≡ missing → ⊥) → IsGivenOrNoMemory missing result wanted → result ≡ Err r → wanted ≡ Err r
given_refused missing r result wanted other (inl is) e = sym is ∙ e
given_refused {A} {R} missing r result wanted other (inr is) e = let same : r ≡ missing = cc in absurd (other same)

pub given_answer : {A R : Type 0} (missing : R) (a : A) (result wanted : Result A R) → IsGivenOrNoMemory missing result wanted → result ≡ Ok a → wanted ≡ Ok a
given_answer missing a result wanted (inl is) e = sym is ∙ e
given_answer missing a result wanted (inr is) e = cc

-- ---- why the connection closed

pub closing_cause : (journal : List Entry) (closed : Option Reason) → ClosesAs journal closed → IfSome closed (λ reason. ClosesWith journal reason)
closing_cause journal None closes = tt
closing_cause journal (Some reason) closes = (closes reason).0 refl

none_of : (closed : Option Reason) → IsNone closed → closed ≡ None
none_of None h = refl
none_of (Some reason) h = absurd (cc)

pub closing_none : (journal : List Entry) (closed : Option Reason) → ClosesAs journal closed → IsNone closed → NoneCloses journal
closing_none journal closed closes none = none_closes journal closed closes (none_of closed none)
