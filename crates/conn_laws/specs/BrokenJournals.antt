-- Small journals, each of which breaks one part of the history law, and one that is legal.
use Rattle.std.specs.Prelude.{ℕ, List, [], ◌∷◌}
use Rattle.wire_frames.specs.RawFrames.{raw_frame, raw_meaning}
use Rattle.wire_frames.specs.declared.asks.Ask.TheVariants as asks
use Rattle.wire_frames.specs.declared.ends.EndKind.{EndKind}
use Rattle.wire_frames.specs.declared.ends.EndKind.TheVariants as kinds
use Rattle.wire_frames.specs.declared.ends.Reason.TheVariants as reasons
use Rattle.conn_core.specs.Tables.{Connection}
use Rattle.conn_core.specs.declared.entries.Answer.TheVariants as answers
use Rattle.conn_core.specs.declared.entries.Entry.{Entry}
use Rattle.conn_core.specs.declared.entries.Event.TheVariants as events

-- a raw wire with two references
abbrev pub raw_line : Connection
raw_line = record {
  wire = raw_meaning;
  settings = record { references = 2; window = 8; share = 1; journal = 64; lease_ms = 60000; wait_ms = 60000 };
}

-- ---- entries: actor 1 holds the lease 1 and asks for the byte AA, which is answered by BB

abbrev pub grant : Entry
grant = record { actor = 1; event = events.AskLease 0; answer = answers.Granted 1 }

abbrev pub wait : Entry
wait = record { actor = 2; event = events.AskLease 0; answer = answers.Waiting 2 0 }

abbrev pub start : (id reference : ℕ) → Entry
start id reference = record { actor = 1; event = events.Submit 1 (asks.Raw (170 ∷ [])) 1000 0; answer = answers.Accepted id reference (raw_frame (170 ∷ []) reference) }

abbrev pub send : ℕ → Entry
send id = record { actor = 0; event = events.TakeSend; answer = answers.Sent id }

abbrev pub reply : (reference id : ℕ) → EndKind → Entry
reply reference id kind = record { actor = 0; event = events.Frame (raw_frame (187 ∷ []) reference); answer = answers.Ended id kind }

abbrev pub late : ℕ → Entry
late reference = record { actor = 0; event = events.Frame (raw_frame (187 ∷ []) reference); answer = answers.Late reference }

abbrev pub stray : ℕ → Entry
stray reference = record { actor = 0; event = events.Frame (raw_frame (187 ∷ []) reference); answer = answers.Stray reference }

abbrev pub cancel : (actor id : ℕ) → Entry
cancel actor id = record { actor = actor; event = events.Cancel id; answer = answers.Cancelled }

abbrev pub collect : ℕ → EndKind → Entry
collect id kind = record { actor = 1; event = events.Collect id; answer = answers.Collected kind }

abbrev pub expire : Entry
expire = record { actor = 0; event = events.Tick 1000; answer = answers.Ticked 1 0 0 }

abbrev pub stop : Entry
stop = record { actor = 1; event = events.Shutdown; answer = answers.Closed }

abbrev pub wear : Entry
wear = record { actor = 1; event = events.Close reasons.Worn; answer = answers.Closed }

-- ---- journals

-- a request is sent, answered and collected: this one is legal
abbrev pub answered : List Entry
answered = grant ∷ start 1 1 ∷ send 1 ∷ reply 1 1 kinds.Done ∷ collect 1 kinds.Done ∷ []

-- an answered request is cancelled
abbrev pub ends_twice : List Entry
ends_twice = grant ∷ start 1 1 ∷ send 1 ∷ reply 1 1 kinds.Done ∷ cancel 1 1 ∷ []

-- an expired request is answered
abbrev pub answered_late : List Entry
answered_late = grant ∷ start 1 1 ∷ send 1 ∷ expire ∷ reply 1 1 kinds.Done ∷ []

-- the late frame of a cancelled request ends another one
abbrev pub ends_another : List Entry
ends_another = grant ∷ start 1 1 ∷ start 2 2 ∷ send 1 ∷ send 2 ∷ cancel 1 1 ∷ reply 1 2 kinds.Done ∷ []

-- a frame ends a request that wasn't sent
abbrev pub ends_queued : List Entry
ends_queued = grant ∷ start 1 1 ∷ reply 1 1 kinds.Done ∷ []

-- a frame ends a request in another way than it fits
abbrev pub ends_unfit : List Entry
ends_unfit = grant ∷ start 1 1 ∷ send 1 ∷ reply 1 1 kinds.Written ∷ []

-- a reference is drawn while its answer is awaited
abbrev pub draws_awaited : List Entry
draws_awaited = grant ∷ start 1 1 ∷ send 1 ∷ cancel 1 1 ∷ start 2 1 ∷ []

-- a reference is drawn while a live request has it
abbrev pub draws_live : List Entry
draws_live = grant ∷ start 1 1 ∷ start 2 1 ∷ []

-- a reference is drawn that the connection doesn't have
abbrev pub draws_past : List Entry
draws_past = grant ∷ start 1 3 ∷ []

-- an id is given twice
abbrev pub same_id : List Entry
same_id = grant ∷ start 1 1 ∷ start 1 2 ∷ []

-- a request is sent that nobody handed in
abbrev pub sends_nothing : List Entry
sends_nothing = grant ∷ send 1 ∷ []

-- a request is sent twice
abbrev pub sends_twice : List Entry
sends_twice = grant ∷ start 1 1 ∷ send 1 ∷ send 1 ∷ []

-- a cancelled request is sent
abbrev pub sends_cancelled : List Entry
sends_cancelled = grant ∷ start 1 1 ∷ cancel 1 1 ∷ send 1 ∷ []

-- a live request is collected
abbrev pub collects_live : List Entry
collects_live = grant ∷ start 1 1 ∷ collect 1 kinds.Done ∷ []

-- a request is collected twice
abbrev pub collects_twice : List Entry
collects_twice = grant ∷ start 1 1 ∷ send 1 ∷ reply 1 1 kinds.Done ∷ collect 1 kinds.Done ∷ collect 1 kinds.Done ∷ []

-- an answered request is collected as expired
abbrev pub collects_as_expired : List Entry
collects_as_expired = grant ∷ start 1 1 ∷ send 1 ∷ reply 1 1 kinds.Done ∷ collect 1 kinds.Expired ∷ []

-- the frame of a sent request is stray
abbrev pub stray_answer : List Entry
stray_answer = grant ∷ start 1 1 ∷ send 1 ∷ stray 1 ∷ []

-- the late frame of a cancelled request is stray
abbrev pub stray_late : List Entry
stray_late = grant ∷ start 1 1 ∷ send 1 ∷ cancel 1 1 ∷ stray 1 ∷ []

-- a frame is late that nobody awaits
abbrev pub late_for_none : List Entry
late_for_none = grant ∷ late 1 ∷ []

-- a lease is asked behind the close
abbrev pub asks_closed : List Entry
asks_closed = grant ∷ stop ∷ wait ∷ []

-- a connection closes twice
abbrev pub closes_twice : List Entry
closes_twice = grant ∷ stop ∷ stop ∷ []

-- a request is cancelled by another actor
abbrev pub cancels_others : List Entry
cancels_others = grant ∷ start 1 1 ∷ cancel 2 1 ∷ []

-- the journal wears before its limit
abbrev pub wears_early : List Entry
wears_early = grant ∷ wear ∷ []
