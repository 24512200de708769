-- The command that the readers of a line's words give is the one that the words spell.
use Rattle.std.proofs.Common.{◌≡◌, ℕ, true, false, cond, List, [], ◌∷◌, take, codes, Option, Some, None, refl, sym, ap, ◌∙◌, subst, arith}
use Rattle.std.specs.Str.{bytes_eq}
use Rattle.std.proofs.lemmas.Option.{option_and_then_some}
use Rattle.std.proofs.lemmas.Slice.Eq.{bytes_eq-Decides}
use Rattle.conn_core.specs.Journals.{timeout_limit}
use Rattle.conn_core.specs.declared.settings.Settings.{Settings}
use Rattle.script_lines.specs.declared.commands.Call.{Call}
use Rattle.script_lines.specs.declared.commands.Call.TheVariants.{AskLease, PollLease, Release, Submit, TakeSend, Frame, Cancel, Collect, Tick, Shutdown}
use Rattle.script_lines.specs.declared.commands.Command.{Command}
use Rattle.script_lines.specs.declared.commands.Command.TheVariants.{Table, Calls}
use Rattle.script_lines.specs.ReaderParts.{number_of, within_of, hex_of, table_of, pair_of, ask_of, poll_of, release_of, submit_of, send_of, frame_of, cancel_of, collect_of, tick_of, shutdown_of, call_of, command_of}
use Rattle.script_lines.specs.Scripts.{AreSpelled, Number, Bytes, Spells, by, long}
use Rattle.script_lines.proofs.WordLaws.{number-sound, number-complete, within-sound, within-complete, hex-sound, hex-complete}

-- no command has eight words or more
pub eight_tell : (words : List (List ℕ)) → command_of (take 8 words) ≡ command_of words
unfolding command_of call_of table_of pair_of ask_of poll_of release_of submit_of send_of frame_of cancel_of collect_of tick_of shutdown_of
eight_tell [] = refl
eight_tell (a ∷ []) = refl
eight_tell (a ∷ b ∷ []) = refl
eight_tell (a ∷ b ∷ c ∷ []) = refl
eight_tell (a ∷ b ∷ c ∷ d ∷ []) = refl
eight_tell (a ∷ b ∷ c ∷ d ∷ e ∷ []) = refl
eight_tell (a ∷ b ∷ c ∷ d ∷ e ∷ f ∷ []) = refl
eight_tell (a ∷ b ∷ c ∷ d ∷ e ∷ f ∷ g ∷ []) = refl
eight_tell (a ∷ b ∷ c ∷ d ∷ e ∷ f ∷ g ∷ h ∷ more) = refl

-- ---- from the words to the command

pair-complete : (words : List (List ℕ)) (caller n : ℕ) → AreSpelled words (Number 1 1000 caller ∷ long n ∷ []) → pair_of words ≡ Some (caller, n)
unfolding pair_of
pair-complete [] caller n h = absurd h
pair-complete (a ∷ []) caller n h = absurd h.1
pair-complete (a ∷ b ∷ []) caller n h =
    rw (within-complete 1 1000 a caller (omega arith) h.0) (rw (number-complete b n h.1.0) refl)
pair-complete (a ∷ b ∷ c ∷ more) caller n h = absurd h.1.1

release-complete : (words : List (List ℕ)) (caller lease now : ℕ) → AreSpelled words (Number 1 1000 caller ∷ long lease ∷ long now ∷ []) → release_of words ≡ Some (Release caller lease now)
unfolding release_of
release-complete [] caller lease now h = absurd h
release-complete (a ∷ []) caller lease now h = absurd h.1
release-complete (a ∷ b ∷ []) caller lease now h = absurd h.1.1
release-complete (a ∷ b ∷ c ∷ []) caller lease now h =
    rw (within-complete 1 1000 a caller (omega arith) h.0) (rw (number-complete b lease h.1.0) (rw (number-complete c now h.1.1.0) refl))
release-complete (a ∷ b ∷ c ∷ d ∷ more) caller lease now h = absurd h.1.1.1

submit-complete : (words : List (List ℕ)) (caller lease now timeout : ℕ) (payload : List ℕ) → AreSpelled words (Number 1 1000 caller ∷ long lease ∷ long now ∷ Number 1 timeout_limit timeout ∷ Bytes payload ∷ []) → submit_of words ≡ Some (Submit caller lease now timeout payload)
unfolding submit_of
submit-complete [] caller lease now timeout payload h = absurd h
submit-complete (a ∷ []) caller lease now timeout payload h = absurd h.1
submit-complete (a ∷ b ∷ []) caller lease now timeout payload h = absurd h.1.1
submit-complete (a ∷ b ∷ c ∷ []) caller lease now timeout payload h = absurd h.1.1.1
submit-complete (a ∷ b ∷ c ∷ d ∷ []) caller lease now timeout payload h = absurd h.1.1.1.1
submit-complete (a ∷ b ∷ c ∷ d ∷ e ∷ []) caller lease now timeout payload h =
    rw (within-complete 1 1000 a caller (omega arith) h.0) (rw (number-complete b lease h.1.0) (rw (number-complete c now h.1.1.0) (rw (within-complete 1 timeout_limit d timeout (omega arith) h.1.1.1.0) (rw (hex-complete e payload h.1.1.1.1.0) refl))))
submit-complete (a ∷ b ∷ c ∷ d ∷ e ∷ f ∷ more) caller lease now timeout payload h = absurd h.1.1.1.1.1

send-complete : (words : List (List ℕ)) → AreSpelled words [] → send_of words ≡ Some TakeSend
unfolding send_of
send-complete [] h = refl
send-complete (a ∷ more) h = absurd h

frame-complete : (words : List (List ℕ)) (bytes : List ℕ) → AreSpelled words (Bytes bytes ∷ []) → frame_of words ≡ Some (Frame bytes)
unfolding frame_of
frame-complete [] bytes h = absurd h
frame-complete (a ∷ []) bytes h =
    rw (hex-complete a bytes h.0) refl
frame-complete (a ∷ b ∷ more) bytes h = absurd h.1

tick-complete : (words : List (List ℕ)) (now : ℕ) → AreSpelled words (long now ∷ []) → tick_of words ≡ Some (Tick now)
unfolding tick_of
tick-complete [] now h = absurd h
tick-complete (a ∷ []) now h =
    rw (number-complete a now h.0) refl
tick-complete (a ∷ b ∷ more) now h = absurd h.1

shutdown-complete : (words : List (List ℕ)) (caller : ℕ) → AreSpelled words (Number 1 1000 caller ∷ []) → shutdown_of words ≡ Some (Shutdown caller)
unfolding shutdown_of
shutdown-complete [] caller h = absurd h
shutdown-complete (a ∷ []) caller h =
    rw (within-complete 1 1000 a caller (omega arith) h.0) refl
shutdown-complete (a ∷ b ∷ more) caller h = absurd h.1

table-complete : (words : List (List ℕ)) (s : Settings) → AreSpelled words (Number 1 65535 s.references ∷ Number 1 64 s.window ∷ Number 1 64 s.share ∷ Number 64 262144 s.journal ∷ Number 1 86400000 s.lease_ms ∷ Number 1 86400000 s.wait_ms ∷ []) → table_of words ≡ Some s
unfolding table_of
table-complete [] s h = absurd h
table-complete (a ∷ []) s h = absurd h.1
table-complete (a ∷ b ∷ []) s h = absurd h.1.1
table-complete (a ∷ b ∷ c ∷ []) s h = absurd h.1.1.1
table-complete (a ∷ b ∷ c ∷ d ∷ []) s h = absurd h.1.1.1.1
table-complete (a ∷ b ∷ c ∷ d ∷ e ∷ []) s h = absurd h.1.1.1.1.1
table-complete (a ∷ b ∷ c ∷ d ∷ e ∷ f ∷ []) s h =
    rw (within-complete 1 65535 a s.references (omega arith) h.0) (rw (within-complete 1 64 b s.window (omega arith) h.1.0) (rw (within-complete 1 64 c s.share (omega arith) h.1.1.0) (rw (within-complete 64 262144 d s.journal (omega arith) h.1.1.1.0) (rw (within-complete 1 86400000 e s.lease_ms (omega arith) h.1.1.1.1.0) (rw (within-complete 1 86400000 f s.wait_ms (omega arith) h.1.1.1.1.1.0) refl)))))
table-complete (a ∷ b ∷ c ∷ d ∷ e ∷ f ∷ g ∷ more) s h = absurd h.1.1.1.1.1.1

pub spelling-complete : (words : List (List ℕ)) (command : Command) → Spells words command → command_of words ≡ Some command
unfolding command_of call_of ask_of poll_of cancel_of collect_of
spelling-complete [] command h = absurd h
spelling-complete (word ∷ words) (Table s) h =
    ap (λ (w : List ℕ). command_of (w ∷ words)) h.0 ∙ rw (table-complete words s h.1) refl
spelling-complete (word ∷ words) (Calls (AskLease caller now)) h =
    ap (λ (w : List ℕ). command_of (w ∷ words)) h.0 ∙ rw (pair-complete words caller now h.1) refl
spelling-complete (word ∷ words) (Calls (PollLease caller lease)) h =
    ap (λ (w : List ℕ). command_of (w ∷ words)) h.0 ∙ rw (pair-complete words caller lease h.1) refl
spelling-complete (word ∷ words) (Calls (Release caller lease now)) h =
    ap (λ (w : List ℕ). command_of (w ∷ words)) h.0 ∙ rw (release-complete words caller lease now h.1) refl
spelling-complete (word ∷ words) (Calls (Submit caller lease now timeout payload)) h =
    ap (λ (w : List ℕ). command_of (w ∷ words)) h.0 ∙ rw (submit-complete words caller lease now timeout payload h.1) refl
spelling-complete (word ∷ words) (Calls TakeSend) h =
    ap (λ (w : List ℕ). command_of (w ∷ words)) h.0 ∙ rw (send-complete words h.1) refl
spelling-complete (word ∷ words) (Calls (Frame bytes)) h =
    ap (λ (w : List ℕ). command_of (w ∷ words)) h.0 ∙ rw (frame-complete words bytes h.1) refl
spelling-complete (word ∷ words) (Calls (Cancel caller id)) h =
    ap (λ (w : List ℕ). command_of (w ∷ words)) h.0 ∙ rw (pair-complete words caller id h.1) refl
spelling-complete (word ∷ words) (Calls (Collect caller id)) h =
    ap (λ (w : List ℕ). command_of (w ∷ words)) h.0 ∙ rw (pair-complete words caller id h.1) refl
spelling-complete (word ∷ words) (Calls (Tick now)) h =
    ap (λ (w : List ℕ). command_of (w ∷ words)) h.0 ∙ rw (tick-complete words now h.1) refl
spelling-complete (word ∷ words) (Calls (Shutdown caller)) h =
    ap (λ (w : List ℕ). command_of (w ∷ words)) h.0 ∙ rw (shutdown-complete words caller h.1) refl

-- ---- from the command to the words

pair-sound : (words : List (List ℕ)) (p : ℕ × ℕ) → pair_of words ≡ Some p → AreSpelled words (by p.0 ∷ long p.1 ∷ [])
unfolding pair_of
pair-sound [] p h = cc
pair-sound (a ∷ []) p h = cc
pair-sound (a ∷ b ∷ []) p h =
    option_and_then_some _ (within_of 1 1000 a) p h (λ caller ha h1.
    option_and_then_some _ (number_of b) p h1 (λ n hb h2.
    let read : AreSpelled (a ∷ b ∷ []) (by caller ∷ long n ∷ []) = (within-sound 1 1000 a caller ha, (number-sound b n hb, tt)) in
    let same : ◌≡◌ {A = ℕ × ℕ} (caller, n) p = cc in
    subst (λ (x : ℕ × ℕ). AreSpelled (a ∷ b ∷ []) (by x.0 ∷ long x.1 ∷ [])) same read))
pair-sound (a ∷ b ∷ c ∷ more) p h = cc

ask-sound : (words : List (List ℕ)) (call : Call) → ask_of words ≡ Some call → Spells (codes "ask" ∷ words) (Calls call)
unfolding ask_of
ask-sound words call h =
    option_and_then_some _ (pair_of words) call h (λ p hp h1.
    let read : Spells (codes "ask" ∷ words) (Calls (AskLease p.0 p.1)) = (refl, pair-sound words p hp) in
    let same : AskLease p.0 p.1 ≡ call = cc in
    subst (λ (x : Call). Spells (codes "ask" ∷ words) (Calls x)) same read)

poll-sound : (words : List (List ℕ)) (call : Call) → poll_of words ≡ Some call → Spells (codes "poll" ∷ words) (Calls call)
unfolding poll_of
poll-sound words call h =
    option_and_then_some _ (pair_of words) call h (λ p hp h1.
    let read : Spells (codes "poll" ∷ words) (Calls (PollLease p.0 p.1)) = (refl, pair-sound words p hp) in
    let same : PollLease p.0 p.1 ≡ call = cc in
    subst (λ (x : Call). Spells (codes "poll" ∷ words) (Calls x)) same read)

cancel-sound : (words : List (List ℕ)) (call : Call) → cancel_of words ≡ Some call → Spells (codes "cancel" ∷ words) (Calls call)
unfolding cancel_of
cancel-sound words call h =
    option_and_then_some _ (pair_of words) call h (λ p hp h1.
    let read : Spells (codes "cancel" ∷ words) (Calls (Cancel p.0 p.1)) = (refl, pair-sound words p hp) in
    let same : Cancel p.0 p.1 ≡ call = cc in
    subst (λ (x : Call). Spells (codes "cancel" ∷ words) (Calls x)) same read)

collect-sound : (words : List (List ℕ)) (call : Call) → collect_of words ≡ Some call → Spells (codes "collect" ∷ words) (Calls call)
unfolding collect_of
collect-sound words call h =
    option_and_then_some _ (pair_of words) call h (λ p hp h1.
    let read : Spells (codes "collect" ∷ words) (Calls (Collect p.0 p.1)) = (refl, pair-sound words p hp) in
    let same : Collect p.0 p.1 ≡ call = cc in
    subst (λ (x : Call). Spells (codes "collect" ∷ words) (Calls x)) same read)

release-sound : (words : List (List ℕ)) (call : Call) → release_of words ≡ Some call → Spells (codes "release" ∷ words) (Calls call)
unfolding release_of
release-sound [] call h = cc
release-sound (a ∷ []) call h = cc
release-sound (a ∷ b ∷ []) call h = cc
release-sound (a ∷ b ∷ c ∷ []) call h =
    option_and_then_some _ (within_of 1 1000 a) call h (λ caller ha h1.
    option_and_then_some _ (number_of b) call h1 (λ lease hb h2.
    option_and_then_some _ (number_of c) call h2 (λ now hc h3.
    let read : Spells (codes "release" ∷ (a ∷ b ∷ c ∷ [])) (Calls (Release caller lease now)) = (refl, (within-sound 1 1000 a caller ha, (number-sound b lease hb, (number-sound c now hc, tt)))) in
    let same : Release caller lease now ≡ call = cc in
    subst (λ (x : Call). Spells (codes "release" ∷ (a ∷ b ∷ c ∷ [])) (Calls x)) same read)))
release-sound (a ∷ b ∷ c ∷ d ∷ more) call h = cc

submit-sound : (words : List (List ℕ)) (call : Call) → submit_of words ≡ Some call → Spells (codes "submit" ∷ words) (Calls call)
unfolding submit_of
submit-sound [] call h = cc
submit-sound (a ∷ []) call h = cc
submit-sound (a ∷ b ∷ []) call h = cc
submit-sound (a ∷ b ∷ c ∷ []) call h = cc
submit-sound (a ∷ b ∷ c ∷ d ∷ []) call h = cc
submit-sound (a ∷ b ∷ c ∷ d ∷ e ∷ []) call h =
    option_and_then_some _ (within_of 1 1000 a) call h (λ caller ha h1.
    option_and_then_some _ (number_of b) call h1 (λ lease hb h2.
    option_and_then_some _ (number_of c) call h2 (λ now hc h3.
    option_and_then_some _ (within_of 1 timeout_limit d) call h3 (λ timeout hd h4.
    option_and_then_some _ (hex_of e) call h4 (λ payload he h5.
    let read : Spells (codes "submit" ∷ (a ∷ b ∷ c ∷ d ∷ e ∷ [])) (Calls (Submit caller lease now timeout payload)) = (refl, (within-sound 1 1000 a caller ha, (number-sound b lease hb, (number-sound c now hc, (within-sound 1 timeout_limit d timeout hd, (hex-sound e payload he, tt)))))) in
    let same : Submit caller lease now timeout payload ≡ call = cc in
    subst (λ (x : Call). Spells (codes "submit" ∷ (a ∷ b ∷ c ∷ d ∷ e ∷ [])) (Calls x)) same read)))))
submit-sound (a ∷ b ∷ c ∷ d ∷ e ∷ f ∷ more) call h = cc

send-sound : (words : List (List ℕ)) (call : Call) → send_of words ≡ Some call → Spells (codes "send" ∷ words) (Calls call)
unfolding send_of
send-sound [] call h =
    let read : Spells (codes "send" ∷ []) (Calls TakeSend) = (refl, tt) in
    let same : TakeSend ≡ call = cc in
    subst (λ (x : Call). Spells (codes "send" ∷ []) (Calls x)) same read
send-sound (a ∷ more) call h = cc

frame-sound : (words : List (List ℕ)) (call : Call) → frame_of words ≡ Some call → Spells (codes "frame" ∷ words) (Calls call)
unfolding frame_of
frame-sound [] call h = cc
frame-sound (a ∷ []) call h =
    option_and_then_some _ (hex_of a) call h (λ bytes ha h1.
    let read : Spells (codes "frame" ∷ (a ∷ [])) (Calls (Frame bytes)) = (refl, (hex-sound a bytes ha, tt)) in
    let same : Frame bytes ≡ call = cc in
    subst (λ (x : Call). Spells (codes "frame" ∷ (a ∷ [])) (Calls x)) same read)
frame-sound (a ∷ b ∷ more) call h = cc

tick-sound : (words : List (List ℕ)) (call : Call) → tick_of words ≡ Some call → Spells (codes "tick" ∷ words) (Calls call)
unfolding tick_of
tick-sound [] call h = cc
tick-sound (a ∷ []) call h =
    option_and_then_some _ (number_of a) call h (λ now ha h1.
    let read : Spells (codes "tick" ∷ (a ∷ [])) (Calls (Tick now)) = (refl, (number-sound a now ha, tt)) in
    let same : Tick now ≡ call = cc in
    subst (λ (x : Call). Spells (codes "tick" ∷ (a ∷ [])) (Calls x)) same read)
tick-sound (a ∷ b ∷ more) call h = cc

shutdown-sound : (words : List (List ℕ)) (call : Call) → shutdown_of words ≡ Some call → Spells (codes "shutdown" ∷ words) (Calls call)
unfolding shutdown_of
shutdown-sound [] call h = cc
shutdown-sound (a ∷ []) call h =
    option_and_then_some _ (within_of 1 1000 a) call h (λ caller ha h1.
    let read : Spells (codes "shutdown" ∷ (a ∷ [])) (Calls (Shutdown caller)) = (refl, (within-sound 1 1000 a caller ha, tt)) in
    let same : Shutdown caller ≡ call = cc in
    subst (λ (x : Call). Spells (codes "shutdown" ∷ (a ∷ [])) (Calls x)) same read)
shutdown-sound (a ∷ b ∷ more) call h = cc

table-sound : (words : List (List ℕ)) (s : Settings) → table_of words ≡ Some s → Spells (codes "table" ∷ words) (Table s)
unfolding table_of
table-sound [] s h = cc
table-sound (a ∷ []) s h = cc
table-sound (a ∷ b ∷ []) s h = cc
table-sound (a ∷ b ∷ c ∷ []) s h = cc
table-sound (a ∷ b ∷ c ∷ d ∷ []) s h = cc
table-sound (a ∷ b ∷ c ∷ d ∷ e ∷ []) s h = cc
table-sound (a ∷ b ∷ c ∷ d ∷ e ∷ f ∷ []) s h =
    option_and_then_some _ (within_of 1 65535 a) s h (λ references ha h1.
    option_and_then_some _ (within_of 1 64 b) s h1 (λ window hb h2.
    option_and_then_some _ (within_of 1 64 c) s h2 (λ share hc h3.
    option_and_then_some _ (within_of 64 262144 d) s h3 (λ journal hd h4.
    option_and_then_some _ (within_of 1 86400000 e) s h4 (λ lease_ms he h5.
    option_and_then_some _ (within_of 1 86400000 f) s h5 (λ wait_ms hf h6.
    let made : Settings = record { references = references; window = window; share = share; journal = journal; lease_ms = lease_ms; wait_ms = wait_ms } in
    let read : Spells (codes "table" ∷ (a ∷ b ∷ c ∷ d ∷ e ∷ f ∷ [])) (Table made) = (refl, (within-sound 1 65535 a references ha, (within-sound 1 64 b window hb, (within-sound 1 64 c share hc, (within-sound 64 262144 d journal hd, (within-sound 1 86400000 e lease_ms he, (within-sound 1 86400000 f wait_ms hf, tt))))))) in
    let same : made ≡ s = cc in
    subst (λ (x : Settings). Spells (codes "table" ∷ (a ∷ b ∷ c ∷ d ∷ e ∷ f ∷ [])) (Table x)) same read))))))
table-sound (a ∷ b ∷ c ∷ d ∷ e ∷ f ∷ g ∷ more) s h = cc

-- what a test chooses is found under the name, or else behind it
tested : {A : Type 0} (P : List (List ℕ) → Type 0) (name word : List ℕ) (words : List (List ℕ)) (found others : Option A) (x : A) → cond (bytes_eq name word) found others ≡ Some x → (found ≡ Some x → P (word ∷ words)) → (others ≡ Some x → P (name ∷ words)) → P (name ∷ words)
tested P name word words found others x h here there =
    elim (bytes_eq name word) as (λ t. bytes_eq name word ≡ t → cond t found others ≡ Some x → P (name ∷ words)) [
      | true ↦ λ test is. subst (λ (first : List ℕ). P (first ∷ words)) (sym ((bytes_eq-Decides name word).0 test)) (here is)
      | false ↦ λ test is. there is
    ] refl h

call-sound : (name : List ℕ) (words : List (List ℕ)) (call : Call) → call_of name words ≡ Some call → Spells (name ∷ words) (Calls call)
unfolding call_of
call-sound name words call h =
    let S : List (List ℕ) → Type 0 = λ ws. Spells ws (Calls call) in
    tested S name (codes "ask") words _ _ call h (ask-sound words call) (λ h1.
    tested S name (codes "poll") words _ _ call h1 (poll-sound words call) (λ h2.
    tested S name (codes "release") words _ _ call h2 (release-sound words call) (λ h3.
    tested S name (codes "submit") words _ _ call h3 (submit-sound words call) (λ h4.
    tested S name (codes "send") words _ _ call h4 (send-sound words call) (λ h5.
    tested S name (codes "frame") words _ _ call h5 (frame-sound words call) (λ h6.
    tested S name (codes "cancel") words _ _ call h6 (cancel-sound words call) (λ h7.
    tested S name (codes "collect") words _ _ call h7 (collect-sound words call) (λ h8.
    tested S name (codes "tick") words _ _ call h8 (tick-sound words call) (λ h9.
    tested S name (codes "shutdown") words _ None call h9 (shutdown-sound words call) (λ h10.
    cc))))))))))

pub spelling-sound : (words : List (List ℕ)) (command : Command) → command_of words ≡ Some command → Spells words command
unfolding command_of
spelling-sound [] command h = cc
spelling-sound (name ∷ words) command h =
    let S : List (List ℕ) → Type 0 = λ ws. Spells ws command in
    tested S name (codes "table") words _ _ command h
    (λ is.
    option_and_then_some _ (table_of words) command is (λ s hs h1.
    let same : Table s ≡ command = cc in
    subst (Spells (codes "table" ∷ words)) same (table-sound words s hs)))
    (λ is.
    option_and_then_some _ (call_of name words) command is (λ call hc h1.
    let same : Calls call ≡ command = cc in
    subst (Spells (name ∷ words)) same (call-sound name words call hc)))
