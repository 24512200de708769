-- How streams are cut into frames: in one way, in some way, and in any cut.
use Rattle.std.proofs.Common.{◌≡◌, ℕ, zero, suc, ◌+◌, ◌-◌, ◌<◌, ◌≤◌, Bool, true, false, ◌⊎◌, inl, inr, List, [], ◌∷◌, ◌++◌, length, take, drop, refl, sym, ap, ◌∙◌, subst, arith, append_assoc, append-nil, length-append, length-drop, lit≤, rules, get_or}
use Rattle.std.proofs.Math.ListN.{get_or-append}
use Rattle.std.specs.Prelude.{◌&&◌, nat_lt, nat_le, if◌then◌else◌, IsTrue}
use Rattle.std.specs.List.{AllByRecursion, flat_map}
use Rattle.std.proofs.lemmas.Bool.{ltb-true, ltb-false}
use Rattle.std.proofs.lemmas.List.{take-append-drop, length-take-le, append_cancel_left}
use Rattle.std.proofs.Math.Seq.{take-append_seam, drop-append_seam}
use Rattle.wire_frames.specs.Frames.{BadLength, Frames, IsBad, IsFrame, IsPiece, IsRest, Piece, Rest, head_of, is_good, joined, total_of}
use Rattle.wire_frames.specs.Framings.{Asks, Bad, Call, Feeds, Framing, Front, GivesFrames, Partial, Whole, after_call, after_calls, after_front, all_fed, all_given, fed, fed_by, front_by_total, front_of, given_by, given_front, opened}
use Rattle.wire_frames.specs.RawFrames.{number_at}
use Rattle.wire_frames.specs.declared.wires.LengthRule.{LengthRule}
use Rattle.wire_frames.specs.declared.wires.LengthRule.TheVariants.{Raw, Modbus, Tpkt}

-- ---- heads

-- a number is read from its own two bytes
number_in_front : (xs ys : List ℕ) (at : ℕ) → at + 1 < length xs → number_at (xs ++ ys) at ≡ number_at xs at
number_in_front xs ys at within = grind (arith, get_or-append)

-- a head says the same whatever follows
total_in_front : (rule : LengthRule) (xs ys : List ℕ) → head_of rule ≤ length xs → total_of rule (xs ++ ys) ≡ total_of rule xs
total_in_front Raw xs ys within = number_in_front xs ys 0 (omega arith)
total_in_front Modbus xs ys within = ap (λ n. n + 6) (number_in_front xs ys 4 (omega arith))
total_in_front Tpkt xs ys within = number_in_front xs ys 2 (omega arith)

-- two frames at the front of the same bytes have the same length
same_length : (rule : LengthRule) (f g xs ys : List ℕ) → IsFrame rule f → IsFrame rule g → f ++ xs ≡ g ++ ys → length f ≡ length g
same_length rule f g xs ys one other same =
    sym one.total ∙ sym (total_in_front rule f xs one.head) ∙ ap (total_of rule) same ∙ total_in_front rule g ys other.head ∙ other.total

same_front : (f g xs ys : List ℕ) → length f ≡ length g → f ++ xs ≡ g ++ ys → (f ≡ g) × (xs ≡ ys)
same_front f g xs ys long same =
    let front : f ≡ g = sym (take-append_seam f xs) ∙ ap (take (length f)) same ∙ ap (λ n. take n (g ++ ys)) long ∙ take-append_seam g ys in
    let back : xs ≡ ys = sym (drop-append_seam f xs) ∙ ap (drop (length f)) same ∙ ap (λ n. drop n (g ++ ys)) long ∙ drop-append_seam g ys in
    (front, back)

-- a whole frame is no piece of one, and has no bad length
whole_no_piece : (rule : LengthRule) (g ys : List ℕ) → IsFrame rule g → IsPiece rule (g ++ ys) → ⊥
whole_no_piece rule g ys whole (inl short) =
    let head = whole.head in omega (arith, length-append g ys)
whole_no_piece rule g ys whole (inr long) =
    let total : total_of rule (g ++ ys) ≡ length g = total_in_front rule g ys whole.head ∙ whole.total in
    let more = long.2 in
    omega (arith, length-append g ys)

true_not_false : (b : Bool) → IsTrue b → b ≡ false → ⊥
true_not_false b t is = cc

whole_not_bad : (rule : LengthRule) (g ys : List ℕ) (got : ℕ) → IsFrame rule g → IsBad rule (g ++ ys) got → ⊥
whole_not_bad rule g ys got whole bad =
    let total : got ≡ total_of rule g = bad.told ∙ total_in_front rule g ys whole.head in
    true_not_false (is_good rule (total_of rule g)) whole.good (ap (is_good rule) (sym total) ∙ bad.bad)

whole_no_rest : (rule : LengthRule) (g ys : List ℕ) (rest : Rest) → IsFrame rule g → IsRest rule (g ++ ys) rest → ⊥
whole_no_rest rule g ys (Piece piece) whole is = whole_no_piece rule g ys whole is.0
whole_no_rest rule g ys (BadLength got) whole is = whole_not_bad rule g ys got whole is

-- a piece of a frame has no bad length
piece_not_bad : (rule : LengthRule) (bytes : List ℕ) (got : ℕ) → IsPiece rule bytes → IsBad rule bytes got → ⊥
piece_not_bad rule bytes got (inl short) bad = let head = bad.head in omega arith
piece_not_bad rule bytes got (inr long) bad =
    true_not_false (is_good rule (total_of rule bytes)) long.1 (ap (is_good rule) (sym bad.told) ∙ bad.bad)

-- ---- in one way

one_rest : (rule : LengthRule) (bytes : List ℕ) (rest other : Rest) → IsRest rule bytes rest → IsRest rule bytes other → rest ≡ other
one_rest rule bytes (Piece p) (Piece q) one two = ap (λ x. Piece x) (one.1 ∙ sym two.1)
one_rest rule bytes (Piece p) (BadLength got) one two = absurd (piece_not_bad rule bytes got one.0 two)
one_rest rule bytes (BadLength got) (Piece q) one two = absurd (piece_not_bad rule bytes got two.0 one)
one_rest rule bytes (BadLength got) (BadLength told) one two = ap (λ x. BadLength x) (one.told ∙ sym two.told)

one_by_frames : (rule : LengthRule) (fs gs : List (List ℕ)) (b c : List ℕ) (rest other : Rest)
    → joined fs ++ b ≡ joined gs ++ c
    → AllByRecursion (IsFrame rule) fs → AllByRecursion (IsFrame rule) gs
    → IsRest rule b rest → IsRest rule c other
    → (fs ≡ gs) × (rest ≡ other)
one_by_frames rule [] [] b c rest other same each every one two =
    (refl, one_rest rule c rest other (subst (λ x. IsRest rule x rest) same one) two)
one_by_frames rule [] (g ∷ gs) b c rest other same each every one two =
    absurd (whole_no_rest rule g (joined gs ++ c) rest every.0 (subst (λ x. IsRest rule x rest) (same ∙ append_assoc g (joined gs) c) one))
one_by_frames rule (f ∷ fs) [] b c rest other same each every one two =
    absurd (whole_no_rest rule f (joined fs ++ b) other each.0 (subst (λ x. IsRest rule x other) (sym same ∙ append_assoc f (joined fs) b) two))
one_by_frames rule (f ∷ fs) (g ∷ gs) b c rest other same each every one two =
    let grouped : f ++ (joined fs ++ b) ≡ g ++ (joined gs ++ c) = sym (append_assoc f (joined fs) b) ∙ same ∙ append_assoc g (joined gs) c in
    let long = same_length rule f g (joined fs ++ b) (joined gs ++ c) each.0 every.0 grouped in
    let parts = same_front f g (joined fs ++ b) (joined gs ++ c) long grouped in
    let more = one_by_frames rule fs gs b c rest other parts.1 each.1 every.1 one two in
    (ap (λ x. x ∷ fs) parts.0 ∙ ap (λ xs. g ∷ xs) more.0, more.1)

pub one_way : (rule : LengthRule) (bytes : List ℕ) (frames others : List (List ℕ)) (rest other : Rest) → Frames rule bytes frames rest → Frames rule bytes others other → (frames ≡ others) × (rest ≡ other)
one_way rule bytes frames others rest other one two =
    one_by_frames rule frames others one.behind two.behind rest other (sym one.are ∙ two.are) one.each two.each one.ends two.ends

-- ---- what a stream begins with

-- what stands at the front is what it is said to be
abbrev pub IsFrontOf : LengthRule → List ℕ → Front → Type 0
IsFrontOf rule bytes (Whole size) = IsFrame rule (take size bytes) × (size ≤ length bytes)
IsFrontOf rule bytes Partial = IsPiece rule bytes
IsFrontOf rule bytes (Bad got) = IsBad rule bytes got

whole_is : (rule : LengthRule) (bytes : List ℕ) → head_of rule ≤ length bytes → IsTrue (is_good rule (total_of rule bytes)) → head_of rule ≤ total_of rule bytes → total_of rule bytes ≤ length bytes → IsFrame rule (take (total_of rule bytes) bytes)
whole_is rule bytes head good over within =
    let size = total_of rule bytes in
    let long : length (take size bytes) ≡ size = length-take-le size bytes within in
    let total : total_of rule (take size bytes) ≡ size =
    sym (total_in_front rule (take size bytes) (drop size bytes) (omega arith)) ∙ ap (total_of rule) (take-append-drop size bytes) in
    record {
      head = omega arith;
      total = total ∙ sym long;
      good = subst (λ n. IsTrue (is_good rule n)) (sym total) good;
    }

both_true : (a b : Bool) → IsTrue (a && b) → IsTrue a
both_true true b t = refl
both_true false b t = t

le_by_test : (a b : ℕ) → IsTrue (nat_le a b) → a ≤ b
le_by_test a b t = search (rules)

good_over : (rule : LengthRule) (n : ℕ) → IsTrue (is_good rule n) → head_of rule ≤ n
good_over Raw n good = let low = le_by_test 4 n (both_true (nat_le 4 n) (nat_le n 4096) good) in omega arith
good_over Modbus n good = let low = le_by_test 8 n (both_true (nat_le 8 n) (nat_le n 260) good) in omega arith
good_over Tpkt n good = let low = le_by_test 7 n (both_true (nat_le 7 n) (nat_le n 4096) good) in omega arith

by_length : (rule : LengthRule) (bytes : List ℕ) (less : Bool) → head_of rule ≤ length bytes → IsTrue (is_good rule (total_of rule bytes)) → nat_lt (length bytes) (total_of rule bytes) ≡ less
    → IsFrontOf rule bytes (if less then Partial else Whole (total_of rule bytes))
by_length rule bytes true head good is = inr (head, good, ltb-true (length bytes) (total_of rule bytes) is)
by_length rule bytes false head good is =
    let within = ltb-false (length bytes) (total_of rule bytes) is in
    (whole_is rule bytes head good (good_over rule (total_of rule bytes) good) within, within)

by_total : (rule : LengthRule) (bytes : List ℕ) (good : Bool) → head_of rule ≤ length bytes → is_good rule (total_of rule bytes) ≡ good
    → IsFrontOf rule bytes (if good then (if nat_lt (length bytes) (total_of rule bytes) then Partial else Whole (total_of rule bytes)) else Bad (total_of rule bytes))
by_total rule bytes true head is = by_length rule bytes (nat_lt (length bytes) (total_of rule bytes)) head is refl
by_total rule bytes false head is = record { head = head; told = refl; bad = is }

by_head : (rule : LengthRule) (bytes : List ℕ) (less : Bool) → nat_lt (length bytes) (head_of rule) ≡ less
    → IsFrontOf rule bytes (if less then Partial else front_by_total rule bytes (total_of rule bytes))
by_head rule bytes true is = inl (ltb-true (length bytes) (head_of rule) is)
by_head rule bytes false is = by_total rule bytes (is_good rule (total_of rule bytes)) (ltb-false (length bytes) (head_of rule) is) refl

pub front_is : (rule : LengthRule) (bytes : List ℕ) → IsFrontOf rule bytes (front_of rule bytes)
front_is rule bytes = by_head rule bytes (nat_lt (length bytes) (head_of rule)) refl

-- ---- in some way

head_over : (rule : LengthRule) → 2 ≤ head_of rule
head_over Raw = lit≤ tt
head_over Modbus = lit≤ tt
head_over Tpkt = lit≤ tt

not_empty : (rule : LengthRule) (f : List ℕ) → IsFrame rule f → 2 ≤ length f
not_empty rule f whole = let head = whole.head in omega (arith, head_over rule)

abbrev Framed : LengthRule → List ℕ → Type 0
Framed rule bytes = (frames : List (List ℕ)) × (rest : Rest) × Frames rule bytes frames rest

with_frame : (rule : LengthRule) (f more : List ℕ) → IsFrame rule f → Framed rule more → Framed rule (f ++ more)
with_frame rule f more whole found =
    let frames = found.0 in
    let is = found.2 in (
      f ∷ frames,
      found.1,
      record {
        behind = is.behind;
        are = ap (λ xs. f ++ xs) is.are ∙ sym (append_assoc f (joined frames) is.behind);
        each = (whole, is.each);
        ends = is.ends;
      },
    )

some_by : (rule : LengthRule) (fuel : ℕ) (bytes : List ℕ) (front : Front) → length bytes ≤ fuel → IsFrontOf rule bytes front → Framed rule bytes
some_by rule fuel bytes Partial within is = ([], Piece bytes, record { behind = bytes; are = refl; each = tt; ends = (is, refl) })
some_by rule fuel bytes (Bad got) within is = ([], BadLength got, record { behind = bytes; are = refl; each = tt; ends = is })
some_by rule zero bytes (Whole size) within is =
    let long = length-take-le size bytes is.1 in
    let some = not_empty rule (take size bytes) is.0 in
    absurd (omega arith)
some_by rule (suc fuel) bytes (Whole size) within is =
    let whole = is.0 in
    let long = length-take-le size bytes is.1 in
    let more = drop size bytes in
    let fewer : length more ≤ fuel = omega (arith, length-drop size bytes, not_empty rule (take size bytes) whole) in
    subst (Framed rule) (take-append-drop size bytes) (with_frame rule (take size bytes) more whole (some_by rule fuel more (front_of rule more) fewer (front_is rule more)))

pub some_way : (rule : LengthRule) (bytes : List ℕ) → (frames : List (List ℕ)) × (rest : Rest) × Frames rule bytes frames rest
some_way rule bytes = some_by rule (length bytes) bytes (front_of rule bytes) (omega arith) (front_is rule bytes)

-- ---- in any cut

-- asking gives what stands at the front, and leaves the rest
asked : (rule : LengthRule) (f : Framing) (front : Front) (more : List ℕ) (frames : List (List ℕ)) (left : List ℕ)
    → IsFrontOf rule f.left front
    → (after_front front f).left ++ more ≡ joined frames ++ left
    → AllByRecursion (IsFrame rule) frames
    → (f.left ++ more ≡ joined (given_front front f.left ++ frames) ++ left) × AllByRecursion (IsFrame rule) (given_front front f.left ++ frames)
asked rule f (Whole size) more frames left is same whole =
    let first = take size f.left in
    let grouped : f.left ++ more ≡ first ++ (drop size f.left ++ more) =
    ap (λ xs. xs ++ more) (sym (take-append-drop size f.left)) ∙ append_assoc first (drop size f.left) more in
    (grouped ∙ ap (λ xs. first ++ xs) same ∙ sym (append_assoc first (joined frames) left), (is.0, whole))
asked rule f Partial more frames left is same whole = (same, whole)
asked rule f (Bad got) more frames left is same whole = (same, whole)

rule_after : (front : Front) (f : Framing) → (after_front front f).rule ≡ f.rule
rule_after (Whole size) f = refl
rule_after Partial f = refl
rule_after (Bad got) f = refl

-- the frames given and what is left, joined, are all that was held and fed
pub record Cuts (f : Framing) (calls : List Call) : Type 0 where
  pub in_order : f.left ++ all_fed calls ≡ joined (all_given calls f) ++ (after_calls calls f).left
  pub whole : AllByRecursion (IsFrame f.rule) (all_given calls f)
  pub rule_is : (after_calls calls f).rule ≡ f.rule

any_cut : (calls : List Call) (f : Framing) → Cuts f calls
any_cut [] f = record { in_order = append-nil f.left; whole = tt; rule_is = refl }
any_cut (Feeds piece ∷ calls) f =
    let rest = any_cut calls (fed piece f) in
    record { in_order = sym (append_assoc f.left piece (all_fed calls)) ∙ rest.in_order; whole = rest.whole; rule_is = rest.rule_is }
any_cut (Asks ∷ calls) f =
    let front = front_of f.rule f.left in
    let next = after_front front f in
    let rest = any_cut calls next in
    let same_rule = rule_after front f in
    let frames = all_given calls next in
    let each : AllByRecursion (IsFrame f.rule) frames = subst (λ r. AllByRecursion (IsFrame r) frames) same_rule rest.whole in
    let both = asked f.rule f front (all_fed calls) frames (after_calls calls next).left (front_is f.rule f.left) rest.in_order each in
    record { in_order = both.0; whole = both.1; rule_is = rest.rule_is ∙ same_rule }

rest_of : (rule : LengthRule) (bytes : List ℕ) (frames : List (List ℕ)) (left : List ℕ) (rest : Rest) → bytes ≡ joined frames ++ left → AllByRecursion (IsFrame rule) frames → IsRest rule left rest → Frames rule bytes frames rest
rest_of rule bytes frames left rest same whole is = record { behind = left; are = same; each = whole; ends = is }

pub gives_frames : (rule : LengthRule) (calls : List Call) → GivesFrames rule calls
gives_frames rule calls =
    let cut = any_cut calls (opened rule) in
    let left = (after_calls calls (opened rule)).left in
    let frames = all_given calls (opened rule) in
    record {
      in_order = cut.in_order;
      whole = cut.whole;
      at_more = λ is. rest_of rule (all_fed calls) frames left (Piece left) cut.in_order cut.whole (subst (IsFrontOf rule left) is (front_is rule left), refl);
      at_bad = λ got is. rest_of rule (all_fed calls) frames left (BadLength got) cut.in_order cut.whole (subst (IsFrontOf rule left) is (front_is rule left));
    }
