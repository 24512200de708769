-- Texts without a line feed, and texts whose words stand apart by one space.
use Rattle.std.proofs.Common.{◌≡◌, ◌≢◌, ℕ, ◌==◌, Bool, true, false, cond, List, [], ◌∷◌, ◌++◌, length, refl, ap, ◌∙◌, subst, sym, arith, Result, Ok, Err}
use Rattle.std.specs.Prelude.{IfOk}
use Rattle.std.specs.List.{AllByRecursion, onto_first, slice_split}
use Rattle.std.proofs.lemmas.List.Splits.{length-slice_split}
use Rattle.std.proofs.lemmas.Bool.Decides.{nat_tests}
use Rattle.hex.specs.Hex.{encode_lower}
use Rattle.wire_frames.specs.declared.ends.Outcome.{Outcome}
use Rattle.wire_frames.specs.declared.kinds.PlcValue.{PlcValue}
use Rattle.conn_core.specs.declared.answers.SendRefusal.{SendRefusal}
use Rattle.conn_core.specs.declared.answers.Sending.{Sending}
use Rattle.txn_core.specs.declared.phases.TakeRefusal.{TakeRefusal}
use Rattle.answer_texts.specs.Lines.{IsFeedless, IsSpaced}
use Rattle.answer_texts.specs.Texts.{values_text}
use Rattle.answer_texts.proofs.WordLemmas.{AreInner, IsInner, IsWord, all-append, all-weaker, lower_inner, lower_word, values_inner, values_word}

pub feedless_inner : (bytes : List ℕ) → AreInner bytes → IsFeedless bytes
feedless_inner bytes h = all-weaker IsInner (λ b. b ≢ 10) (λ b inner. inner.0) bytes h

pub feedless_word : (bytes : List ℕ) → IsWord bytes → IsFeedless bytes
feedless_word bytes h = feedless_inner bytes h.inner

pub feedless_apart : (xs ys : List ℕ) → IsFeedless xs → IsFeedless ys → IsFeedless (xs ++ 32 ∷ [] ++ ys)
feedless_apart xs ys h k =
    all-append (λ b. b ≢ 10) (xs ++ 32 ∷ []) ys (all-append (λ b. b ≢ 10) xs (32 ∷ []) h (omega arith, tt)) k

pub feedless_frame : (answer : Result Sending SendRefusal) → IfOk answer (λ sending. IsFeedless (encode_lower sending.frame))
feedless_frame (Ok sending) = feedless_inner (encode_lower sending.frame) (lower_inner sending.frame)
feedless_frame (Err refusal) = tt

each_feedless : (rows : List (List PlcValue)) → AllByRecursion (λ row. IsFeedless (values_text row)) rows
each_feedless [] = tt
each_feedless (row ∷ rows) = (feedless_inner (values_text row) (values_inner row), each_feedless rows)

pub feedless_rows : (answer : Result Outcome TakeRefusal) → IfOk answer (λ outcome. AllByRecursion (λ row. IsFeedless (values_text row)) outcome.values)
feedless_rows (Ok outcome) = each_feedless outcome.values
feedless_rows (Err refusal) = tt

-- ---- the parts between spaces

abbrev parts : List ℕ → List (List ℕ)
parts bytes = slice_split (λ b. b == 32) bytes

some_part : (bytes : List ℕ) → parts bytes ≢ []
some_part bytes = λ e. omega (arith, ap length e, length-slice_split (λ b. b == 32) bytes)

onto_first-append : (b : ℕ) (xs ys : List (List ℕ)) → xs ≢ [] → onto_first b (xs ++ ys) ≡ onto_first b xs ++ ys
onto_first-append b [] ys some = absurd (some refl)
onto_first-append b (x ∷ xs) ys some = refl

cond-append : (c : Bool) (b : ℕ) (xs ys : List (List ℕ)) → xs ≢ [] → cond c ([] ∷ (xs ++ ys)) (onto_first b (xs ++ ys)) ≡ cond c ([] ∷ xs) (onto_first b xs) ++ ys
cond-append true b xs ys some = refl
cond-append false b xs ys some = onto_first-append b xs ys some

parts_apart : (xs ys : List ℕ) → parts (xs ++ 32 ∷ [] ++ ys) ≡ parts xs ++ parts ys
parts_apart [] ys = refl
parts_apart (x ∷ xs) ys =
    ap (λ (rest : List (List ℕ)). cond (x == 32) ([] ∷ rest) (onto_first x rest)) (parts_apart xs ys) ∙ cond-append (x == 32) x (parts xs) (parts ys) (some_part xs)

pub spaced_apart : (xs ys : List ℕ) → IsSpaced xs → IsSpaced ys → IsSpaced (xs ++ 32 ∷ [] ++ ys)
spaced_apart xs ys h k =
    subst (AllByRecursion (λ (word : List ℕ). word ≢ [])) (sym (parts_apart xs ys)) (all-append (λ word. word ≢ []) (parts xs) (parts ys) h k)

-- a word has no space
one_part : (bytes : List ℕ) → AreInner bytes → parts bytes ≡ bytes ∷ []
one_part [] h = refl
one_part (b ∷ bytes) h = let other : (b == 32) ≡ false = grind (arith, nat_tests) in rw other (ap (onto_first b) (one_part bytes h.1))

pub spaced_word : (bytes : List ℕ) → IsWord bytes → IsSpaced bytes
spaced_word bytes h = subst (AllByRecursion (λ (word : List ℕ). word ≢ [])) (sym (one_part bytes h.inner)) (h.some, tt)

pub spaced_frame : (answer : Result Sending SendRefusal) → IfOk answer (λ sending. sending.frame ≢ []) → IfOk answer (λ sending. IsSpaced (encode_lower sending.frame))
spaced_frame (Ok sending) h = spaced_word (encode_lower sending.frame) (lower_word sending.frame h)
spaced_frame (Err refusal) h = tt

pub spaced_rows : (answer : Result Outcome TakeRefusal) → IfOk answer (λ outcome. AllByRecursion (λ row. row ≢ []) outcome.values) → IfOk answer (λ outcome. AllByRecursion (λ row. IsSpaced (values_text row)) outcome.values)
spaced_rows (Ok outcome) h = all-weaker (λ row. row ≢ []) (λ row. IsSpaced (values_text row)) (λ row some. spaced_word (values_text row) (values_word row some)) outcome.values h
spaced_rows (Err refusal) h = tt
