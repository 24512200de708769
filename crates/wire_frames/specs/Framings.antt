-- What a framer holds of a stream, and what its calls make of it.
use Rattle.std.specs.Prelude.{ℕ, ◌≡◌, ◌+◌, ◌-◌, ◌^◌, min, nat_lt, if◌then◌else◌, List, [], ◌∷◌, ◌++◌, length, take, drop}
use Rattle.std.specs.List.{AllByRecursion}
use Rattle.wire_frames.specs.Frames.{BadLength, Frames, IsFrame, Piece, head_of, is_good, joined, total_of}
use Rattle.wire_frames.specs.declared.wires.LengthRule.{LengthRule}
use Rattle.wire_frames.specs.declared.framing.Beginning.{Beginning}
use Rattle.wire_frames.specs.declared.framing.Beginning.TheVariants as beginnings
use Rattle.wire_frames.specs.declared.framing.Framed.{Framed}
use Rattle.wire_frames.specs.declared.framing.Framed.TheVariants as framed

-- the rule of its frames, how many were given, and the bytes that came and weren't given
pub record Framing : Type 0 where
  pub rule : LengthRule
  pub given : ℕ
  pub left : List ℕ

abbrev pub opened : LengthRule → Framing
opened rule = record { rule = rule; given = 0; left = [] }

-- a piece came
abbrev pub fed : List ℕ → Framing → Framing
fed piece f = record f { left = f.left ++ piece }

-- what a stream begins with: a whole frame of so many bytes, less than one, or a head that tells of so many bytes as no frame has
pub data Front : Type 0 where
  Whole : (size : ℕ) → Front
  Partial : Front
  Bad : (got : ℕ) → Front

-- what a stream begins with, as the program keeps it
abbrev pub front_as : Beginning → Front
front_as (beginnings.Whole size) = Whole size
front_as beginnings.Partial = Partial
front_as (beginnings.Bad got) = Bad got

abbrev pub front_by_total : LengthRule → List ℕ → (total : ℕ) → Front
front_by_total rule bytes total =
    if is_good rule total
    then (if nat_lt (length bytes) total then Partial else Whole total)
    else Bad total

abbrev pub front_of : LengthRule → List ℕ → Front
front_of rule bytes = if nat_lt (length bytes) (head_of rule) then Partial else front_by_total rule bytes (total_of rule bytes)

-- a count stands still at its greatest value
abbrev pub next_count : ℕ → ℕ
next_count n = min (n + 1) (2 ^ 64 - 1)

-- a whole frame is given, and nothing else changes what is left
abbrev pub after_front : Front → Framing → Framing
after_front (Whole size) f = record f { given = next_count f.given; left = drop size f.left }
after_front Partial f = f
after_front (Bad got) f = f

abbrev pub after_next : Framing → Framing
after_next f = after_front (front_of f.rule f.left) f

-- what is answered: the frame's own bytes, that more must come, or the bad length, behind so many frames
abbrev pub AnswersFront : Front → Framing → Framed → Type 0
AnswersFront (Whole size) f (framed.Frame lent) = lent.now ≡ take size f.left
AnswersFront Partial f framed.More = Unit {0}
AnswersFront (Bad got) f (framed.BadLength index told) = (index ≡ f.given) × (told ≡ got)
AnswersFront front f answer = ⊥

-- ---- whole runs

-- what is done with a framer: a piece is fed, or the next frame is asked for
pub data Call : Type 0 where
  Feeds : (piece : List ℕ) → Call
  Asks : Call

abbrev pub after_call : Call → Framing → Framing
after_call (Feeds piece) f = fed piece f
after_call Asks f = after_next f

abbrev pub given_front : Front → List ℕ → List (List ℕ)
given_front (Whole size) left = take size left ∷ []
given_front Partial left = []
given_front (Bad got) left = []

-- the frame that a call gives, if any
abbrev pub given_by : Call → Framing → List (List ℕ)
given_by (Feeds piece) f = []
given_by Asks f = given_front (front_of f.rule f.left) f.left

abbrev pub after_calls : List Call → Framing → Framing
after_calls [] f = f
after_calls (c ∷ cs) f = after_calls cs (after_call c f)

abbrev pub all_given : List Call → Framing → List (List ℕ)
all_given [] f = []
all_given (c ∷ cs) f = given_by c f ++ all_given cs (after_call c f)

abbrev pub fed_by : Call → List ℕ
fed_by (Feeds piece) = piece
fed_by Asks = []

-- all bytes that the calls fed
abbrev pub all_fed : List Call → List ℕ
all_fed [] = []
all_fed (c ∷ cs) = fed_by c ++ all_fed cs

-- Whatever pieces a stream is fed in, and whenever frames are asked for, the frames given are the stream's, in order and none left
-- out; once no more are given, they are all that the bytes fed have.
pub record GivesFrames (rule : LengthRule) (calls : List Call) : Type 0 where
  pub in_order : all_fed calls ≡ joined (all_given calls (opened rule)) ++ (after_calls calls (opened rule)).left
  pub whole : AllByRecursion (IsFrame rule) (all_given calls (opened rule))
  pub at_more : front_of rule (after_calls calls (opened rule)).left ≡ Partial
      → Frames rule (all_fed calls) (all_given calls (opened rule)) (Piece (after_calls calls (opened rule)).left)
  pub at_bad : (got : ℕ) → front_of rule (after_calls calls (opened rule)).left ≡ Bad got
      → Frames rule (all_fed calls) (all_given calls (opened rule)) (BadLength got)
