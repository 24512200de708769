-- Counts in brackets.
use Rattle.std.proofs.Common.{◌≡◌, ◌≢◌, ℕ, ◌+◌, ◌<◌, ◌≤◌, List, [], ◌∷◌, ◌++◌, length, take, drop, refl, sym, ap, ◌∙◌, subst, inl, inr, arith, add-one, decimal}
use Rattle.tag_address.specs.declared.tags.TagWhy.{TagWhy}
use Rattle.tag_address.specs.declared.tags.TagWhy.TheVariants.{Area, Number, Bit, «Type», Size, Count, End}
use Rattle.tag_address.specs.Places.{Begins}
use Rattle.tag_address.specs.Parts.{IsBracketed, IsClose, IsCountUpTo, IsNotLed, IsNumber, IsNumberAt, IsRead, IsRefusal, IsStuck, IsStuckPart, GoesOn}
use Rattle.tag_address.specs.Tags.{IsPart, brackets, colons}
use Rattle.tag_address.proofs.Languages.{brackets-append, IsFull, IsOnlyFront, both_read, both_refused, stop, stop-none}
use Rattle.tag_address.proofs.NumberLaws.{IsDigit, digits_clear, only_number}

-- ---- the closing bracket

pub close_read : (count : ℕ) (text : List ℕ) → text ≡ 93 ∷ [] → IsRead (IsClose count) text count
close_read count text e = record { is = (e, refl); only = λ other h. h.1 }

close-ends : (n : ℕ) (y : List ℕ) (v : ℕ) → IsClose n y v → IsNotLed IsDigit y
close-ends n y v h b r e digit =
    let same : b ≡ 93 = (let both : b ∷ r ≡ 93 ∷ [] = sym e ∙ h.0 in cc) in omega (arith, digit, same)

only_count : (most : ℕ) (front : List ℕ) (count : ℕ) → most ≤ 65535 → IsNumber 1 most front count → IsOnlyFront (IsNumber 1 most) IsClose (GoesOn count most) front count
only_count most front count ms h = only_number IsClose 1 most front count (omega arith) h close-ends

-- ---- a count behind its opening bracket

bracketed_full : (most : ℕ) → IsFull (IsNumber 1 most) IsClose
bracketed_full most x n h = (93 ∷ [], n, (refl, refl))

pub bracketed_missing : (most : ℕ) (text : List ℕ) → IsStuckPart (IsNumber 1 most) text 0 → IsRefusal (IsBracketed most) 2 1 text 0 Count
bracketed_missing most text stuck = record {
  at = stop (IsNumber 1 most) IsClose text 0 (bracketed_full most) stuck;
  part = λ inside. (refl, refl, stop-none (IsNumber 1 most) IsClose text 0 stuck);
}

pub bracketed_read : (most : ℕ) (text : List ℕ) (count used : ℕ) → most ≤ 65535 → IsNumberAt 1 most text count used → drop used text ≡ 93 ∷ [] → IsRead (IsBracketed most) text count
bracketed_read most text count used ms at e =
    both_read (IsNumber 1 most) IsClose (GoesOn count most) text used count count at.is at.longest (only_count most (take used text) count ms at.is) (close_read count (drop used text) e)

-- the colons and brackets of a number change no counts
pub with_number : {A : Type 0} (L : List ℕ → A → Type 0) (before opened least most n place : ℕ) (x text : List ℕ) (why : TagWhy) → most ≤ 65536 → IsNumber least most x n → IsRefusal L before opened text place why → IsRefusal L (before + colons x) (opened + brackets x) text place why
with_number L before opened least most n place x text why ms h refused =
    let clear = digits_clear n (omega (arith, h.2)) in
    let colon : before ≡ before + colons x = omega (arith, clear.0, ap colons h.0) in
    let bracket : opened ≡ opened + brackets x = omega (arith, clear.1, ap brackets h.0) in
    subst (λ (k : ℕ). IsRefusal L (before + colons x) k text place why) bracket (subst (λ (k : ℕ). IsRefusal L k opened text place why) colon refused)

pub bracketed_refused : (most : ℕ) (text : List ℕ) (count used place : ℕ) (why : TagWhy) → most ≤ 65535 → IsNumberAt 1 most text count used → IsRefusal (IsClose count) 2 1 (drop used text) place why → IsRefusal (IsBracketed most) 2 1 text (used + place) why
bracketed_refused most text count used place why ms at refused =
    both_refused (IsNumber 1 most) IsClose (GoesOn count most) 2 1 text used place count why at.within at.is at.longest (only_count most (take used text) count ms at.is)
    (with_number (IsClose count) 2 1 1 most count place (take used text) (drop used text) why (omega arith) at.is refused)

-- ---- a count in brackets, or none

bracketed_text : (count : ℕ) (front behind : List ℕ) (n : ℕ) → front ≡ decimal n → behind ≡ 93 ∷ [] → count ≡ n → front ++ behind ≡ decimal count ++ (93 ∷ [])
bracketed_text count front behind n f b c = ap (λ (x : List ℕ). x ++ behind) (f ∙ ap decimal (sym c)) ∙ ap (λ (x : List ℕ). decimal count ++ x) b

to_count : (most : ℕ) (text : List ℕ) (count : ℕ) → IsBracketed most text count → IsCountUpTo most (91 ∷ text) count
to_count most text count h =
    let is = bracketed_text count h.front h.behind h.said h.first.0 h.second.0 h.second.1 in
    (inl (ap (λ (x : List ℕ). 91 ∷ x) (h.are ∙ is)), omega (arith, h.first.1, h.second.1), omega (arith, h.first.2, h.second.1))

from_count : (most : ℕ) (text : List ℕ) (count : ℕ) → IsCountUpTo most (91 ∷ text) count → IsBracketed most text count
from_count most text count h =
    elim h.0 [
      | inl e ↦
          let is : text ≡ decimal count ++ (93 ∷ []) = (let both : 91 ∷ text ≡ 91 ∷ (decimal count ++ (93 ∷ [])) = e in cc) in
          record { front = decimal count; behind = 93 ∷ []; said = count; are = is; first = (refl, h.1, h.2); second = (refl, refl) }
      | inr none ↦ (let e : 91 ∷ text ≡ [] = none.1 in cc)
    ]

-- what a text that opens a bracket says
pub count_read : (most : ℕ) (text : List ℕ) (count : ℕ) → IsRead (IsBracketed most) text count → IsRead (IsCountUpTo most) (91 ∷ text) count
count_read most text count read = record {
  is = to_count most text count read.is;
  only = λ other h. read.only other (from_count most text other h);
}

open-next : (most : ℕ) (text : List ℕ) (place : ℕ) → IsStuck (IsBracketed most) text place → place < length text → Begins (IsCountUpTo most) (91 ∷ take (place + 1) text) → ⊥
open-next most text place stuck inside h =
    stuck.next inside (h.0, h.1, from_count most (take (place + 1) text ++ h.0) h.1 h.2)

open_stuck : (most : ℕ) (text : List ℕ) (place : ℕ) → IsStuck (IsBracketed most) text place → IsStuck (IsCountUpTo most) (91 ∷ text) (place + 1)
open_stuck most text place stuck =
    let split : (k : ℕ) → take (k + 1) (91 ∷ text) ≡ 91 ∷ take k text = λ k. rw add-one refl in
    record {
      within = omega (arith, stuck.within);
      front = (stuck.front.0, stuck.front.1, subst (λ (x : List ℕ). IsCountUpTo most (x ++ stuck.front.0) stuck.front.1) (sym (split place)) (to_count most (take place text ++ stuck.front.0) stuck.front.1 stuck.front.2));
      next = λ inside h. open-next most text place stuck (omega arith) (h.0, h.1, subst (λ (x : List ℕ). IsCountUpTo most (x ++ h.0) h.1) (split (place + 1)) h.2);
      short = λ whole v h. stuck.short (omega arith) v (from_count most text v h);
    }

open_part : (most : ℕ) (front : List ℕ) (why : TagWhy) → IsPart (IsBracketed most) 2 1 front why → IsPart (IsCountUpTo most) 2 0 (91 ∷ front) why
open_part most front Area part = omega (arith, part)
open_part most front Number part = omega (arith, part)
open_part most front Bit part = part
open_part most front «Type» part = absurd (omega (arith, part.1))
open_part most front Size part = part
open_part most front Count part = (part.0, omega (arith, part.1, brackets-append (91 ∷ []) front), λ v h. part.2 v (from_count most front v h))
open_part most front End part = (part.0, to_count most front part.0 part.1)

pub count_refused : (most : ℕ) (text : List ℕ) (place : ℕ) (why : TagWhy) → IsRefusal (IsBracketed most) 2 1 text place why → IsRefusal (IsCountUpTo most) 2 0 (91 ∷ text) (1 + place) why
count_refused most text place why refused =
    let swap : place + 1 ≡ 1 + place = omega arith in
    let split : take (place + 1) (91 ∷ text) ≡ 91 ∷ take place text = rw add-one refl in
    subst (λ (k : ℕ). IsRefusal (IsCountUpTo most) 2 0 (91 ∷ text) k why) swap (record {
      at = open_stuck most text place refused.at;
      part = λ inside. subst (λ (x : List ℕ). IsPart (IsCountUpTo most) 2 0 x why) (sym split) (open_part most (take place text) why (refused.part (omega arith)));
    })

-- no count, where the text ends
pub no_count : (most : ℕ) → 1 ≤ most → IsRead (IsCountUpTo most) [] 1
no_count most some = record {
  is = (inr (refl, refl), omega arith, some);
  only = λ other h. elim h.0 [ inl e ↦ (let both : ◌≡◌ {A = List ℕ} [] (91 ∷ (decimal other ++ (93 ∷ []))) = e in cc) | inr none ↦ none.0 ];
}

count-next : (most b : ℕ) (text : List ℕ) → b ≢ 91 → Begins (IsCountUpTo most) (b ∷ []) → ⊥
count-next most b text other h =
    elim h.2.0 [
      | inl e ↦ other (let both : b ∷ h.0 ≡ 91 ∷ (decimal h.1 ++ (93 ∷ [])) = e in cc)
      | inr none ↦ (let both : b ∷ h.0 ≡ [] = none.1 in cc)
    ]

-- no count, where no bracket opens
pub past_type : (most b : ℕ) (text : List ℕ) → 1 ≤ most → b ≢ 91 → IsRefusal (IsCountUpTo most) 2 0 (b ∷ text) 0 End
past_type most b text some other = record {
  at = record {
    within = omega arith;
    front = ([], 1, (no_count most some).is);
    next = λ inside h. count-next most b text other h;
    short = λ none v h. omega (arith, none);
  };
  part = λ inside. (1, (no_count most some).is);
}
