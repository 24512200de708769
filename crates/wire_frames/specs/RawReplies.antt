-- Whatever a raw frame holds, it is a reply to a raw ask; and a frame is as long as the wire says of its ask.
use Rattle.std.specs.Prelude.{ℕ, ◌≡◌, ◌+◌, ◌≤◌, true, false, if◌then◌else◌, ◌==◌, List, [], ◌∷◌, length, IsTrue, Ok}
use Rattle.std.proofs.Common.{ap, arith, inr, refl}
use Rattle.wire_frames.specs.RawFrames.{asked_payload, done_bytes, payload_fit, raw_admits, raw_frame, raw_meaning}
use Rattle.wire_frames.specs.WireMeaning.{IsReplyOutcome}
use Rattle.wire_frames.specs.declared.asks.Ask.{Ask}
use Rattle.wire_frames.specs.declared.asks.Ask.TheVariants as asks
use Rattle.wire_frames.specs.declared.ends.EndKind.TheVariants.{Remote}

pub payload_replies : (asked payload : List ℕ) → IsReplyOutcome (asks.Raw asked) (payload_fit payload)
payload_replies asked [] = refl
payload_replies asked (b ∷ []) = inr refl
payload_replies asked (b ∷ c ∷ []) =
    elim (b == 255) as (λ v. IsReplyOutcome (asks.Raw asked) (if v then record { kind = Remote c; values = [] } else done_bytes (b ∷ c ∷ []))) [ true ↦ refl | false ↦ inr refl ]
payload_replies asked (b ∷ c ∷ d ∷ rest) = inr refl

pub raw_replies : (ask : Ask) (payload : List ℕ) → IsTrue (raw_admits ask) → IsReplyOutcome ask (payload_fit payload)
raw_replies (asks.Raw asked) payload admitted = payload_replies asked payload
raw_replies (asks.Read items) payload admitted = absurd (cc)
raw_replies (asks.Write items values) payload admitted = absurd (cc)

pub raw_sized : (ask : Ask) (reference : ℕ) (frame : List ℕ) → raw_meaning.frame_of ask reference ≡ Ok frame → length frame ≤ length (asked_payload ask) + 4
raw_sized ask reference frame is =
    let same : raw_frame (asked_payload ask) reference ≡ frame = cc in
    let long : length (raw_frame (asked_payload ask) reference) ≡ length frame = ap length same in
    omega arith
