-- Lines that were put one behind another are read again.
use Rattle.std.proofs.Common.{◌≡◌, ◌≢◌, ℕ, ◌==◌, Bool, false, List, [], ◌∷◌, ◌++◌, refl, ap, ◌∙◌, append_assoc, arith}
use Rattle.std.specs.List.{AllByRecursion, slice_split}
use Rattle.std.proofs.lemmas.Bool.Decides.{nat_tests}
use Rattle.host_engine.specs.Lines.{last_line, lines_among, lines_in, with_feeds}
use Rattle.answer_texts.specs.Lines.{IsFeedless}
use Rattle.host_engine.proofs.LineLemmas.{before_parts, some_part}

other_byte : (b : ℕ) → b ≢ 10 → (b == 10) ≡ false
other_byte b h = grind (arith, nat_tests)

-- the part before the first line feed
split_feed : (line rest : List ℕ) → IsFeedless line → slice_split (λ b. b == 10) (line ++ 10 ∷ rest) ≡ line ∷ slice_split (λ b. b == 10) rest
split_feed [] rest h = refl
split_feed (b ∷ bs) rest h = rw (other_byte b h.0, split_feed bs rest h.1) refl

-- bytes without a line feed are one part
split_none : (bytes : List ℕ) → IsFeedless bytes → slice_split (λ b. b == 10) bytes ≡ bytes ∷ []
split_none [] h = refl
split_none (b ∷ bs) h = rw (other_byte b h.0, split_none bs h.1) refl

pub feeds_read : (ended : Bool) (lines : List (List ℕ)) (rest : List ℕ) → AllByRecursion IsFeedless lines → IsFeedless rest → lines_in ended (with_feeds lines ++ rest) ≡ lines ++ last_line ended rest
feeds_read ended [] rest all free = ap (lines_among ended) (split_none rest free)
feeds_read ended (line ∷ lines) rest all free =
    let more = with_feeds lines ++ rest in
    let here : with_feeds (line ∷ lines) ++ rest ≡ line ++ 10 ∷ more = append_assoc (line ++ 10 ∷ []) (with_feeds lines) rest ∙ append_assoc line (10 ∷ []) more in
    ap (lines_in ended) here
    ∙ ap (lines_among ended) (split_feed line more all.0)
    ∙ before_parts ended line (slice_split (λ b. b == 10) more) (some_part (λ b. b == 10) more)
    ∙ ap (λ (ls : List (List ℕ)). line ∷ ls) (feeds_read ended lines rest all.1 free)
