-- How a text is read part by part: what a reader of the first part and a reader of what stands behind it tell of both.
use Rattle.std.proofs.Common.{◌≡◌, ℕ, ◌+◌, ◌<◌, ◌≤◌, ◌==◌, List, [], ◌∷◌, ◌++◌, length, take, drop, refl, sym, ap, ◌∙◌, subst, inl, inr, arith, length-drop, add-one, count_by, Bool}
use Rattle.std.proofs.lemmas.List.{append-nil, append_assoc, append_cancel_left, take-append-drop, take_all}
use Rattle.std.proofs.lemmas.List.Sums.{sum_by-append}
use Rattle.std.proofs.Math.Seq.{take-add}
use Rattle.tag_address.specs.declared.tags.TagWhy.{TagWhy}
use Rattle.tag_address.specs.declared.tags.TagWhy.TheVariants.{Area, Number, Bit, «Type», Size, Count, End}
use Rattle.tag_address.specs.Places.{Begins}
use Rattle.tag_address.specs.Tags.{IsPart, brackets, colons}
use Rattle.tag_address.specs.Parts.{Then, IsRead, IsStuck, IsStuckPart, IsRefusal, IsNotLed}
use Rattle.tag_address.proofs.Splits.{are_cut, front_of_longer}

-- what stands behind any text of the first part can go on
abbrev pub IsFull : {A B : Type 0} → (List ℕ → A → Type 0) → (A → List ℕ → B → Type 0) → Type 0
IsFull {A} {B} L K = (x : List ℕ) (a : A) → L x a → (y : List ℕ) × (b : B) × K a y b

-- A text that begins with this first part, before something that isn't led by Q, begins with no other.
abbrev pub IsOnlyFront : {A B : Type 0} → (List ℕ → A → Type 0) → (A → List ℕ → B → Type 0) → (ℕ → Type 0) → List ℕ → A → Type 0
IsOnlyFront {A} {B} L K Q front a =
    (x y z : List ℕ) (other : A) (b : B) → L x other → K other y b → IsNotLed Q z → front ++ z ≡ x ++ y → (x ≡ front) × (other ≡ a)

-- ---- the first part isn't there

stop-front : {A B : Type 0} (L : List ℕ → A → Type 0) (K : A → List ℕ → B → Type 0) (front : List ℕ) → IsFull L K → Begins L front → Begins (Then L K) front
stop-front L K front full h =
    let more = full (front ++ h.0) h.1 h.2 in
    (h.0 ++ more.0, more.1, record { front = front ++ h.0; behind = more.0; said = h.1; are = sym (append_assoc front h.0 more.0); first = h.2; second = more.2 })

stop-next : {A B : Type 0} (L : List ℕ → A → Type 0) (K : A → List ℕ → B → Type 0) (text : List ℕ) (place : ℕ) → IsStuckPart L text place → place < length text → Begins (Then L K) (take (place + 1) text) → ⊥
stop-next L K text place stuck inside h =
    elim (are_cut (take (place + 1) text) h.0 h.2.front h.2.behind h.2.are) [
      | inl c ↦
          elim (front_of_longer h.2.front c.0 text place inside c.1) [
            | inl same ↦ stuck.next inside ([], h.2.said, subst (λ (x : List ℕ). L x h.2.said) (same ∙ sym (append-nil (take (place + 1) text))) h.2.first)
            | inr s ↦ stuck.none h.2.front s.0 h.2.said s.1 h.2.first
          ]
      | inr c ↦ stuck.next inside (c.0, h.2.said, subst (λ (x : List ℕ). L x h.2.said) c.1 h.2.first)
    ]

pub stop : {A B : Type 0} (L : List ℕ → A → Type 0) (K : A → List ℕ → B → Type 0) (text : List ℕ) (place : ℕ) → IsFull L K → IsStuckPart L text place → IsStuck (Then L K) text place
stop L K text place full stuck = record {
  within = stuck.within;
  front = stop-front L K (take place text) full stuck.front;
  next = stop-next L K text place stuck;
  short = λ whole b t. stuck.none t.front t.behind t.said (take_all place text (omega (arith, whole)) ∙ t.are) t.first;
}

-- no text of both stands in front either
pub stop-none : {A B : Type 0} (L : List ℕ → A → Type 0) (K : A → List ℕ → B → Type 0) (text : List ℕ) (place : ℕ) → IsStuckPart L text place → (b : B) → Then L K (take place text) b → ⊥
stop-none L K text place stuck b t = stuck.none t.front t.behind t.said t.are t.first

-- ---- the first part is there

-- a text that begins with the same byte is led as that one
same_lead : (Q : ℕ → Type 0) (text other : List ℕ) → ((b : ℕ) (r : List ℕ) → other ≡ b ∷ r → (s : List ℕ) × (text ≡ b ∷ s)) → IsNotLed Q text → IsNotLed Q other
same_lead Q text other lead not b r e q =
    let here = lead b r e in
    not b here.0 here.1 q

lead_more : (text rest : List ℕ) (p : ℕ) → p < length text → (b : ℕ) (r : List ℕ) → take (p + 1) text ++ rest ≡ b ∷ r → (s : List ℕ) × (text ≡ b ∷ s)
lead_more [] rest p inside b r e = absurd (omega arith)
lead_more (c ∷ text) rest p inside b r e =
    let split : take (p + 1) (c ∷ text) ≡ c ∷ take p text = rw add-one refl in
    let same : c ≡ b = (let both : c ∷ (take p text ++ rest) ≡ b ∷ r = ap (λ (x : List ℕ). x ++ rest) (sym split) ∙ e in cc) in
    (text, ap (λ (x : ℕ). x ∷ text) same)

lead_front : (text : List ℕ) (p : ℕ) (b : ℕ) (r : List ℕ) → take p text ≡ b ∷ r → (s : List ℕ) × (text ≡ b ∷ s)
lead_front text p b r e =
    (r ++ drop p text, sym (take-append-drop p text) ∙ ap (λ (x : List ℕ). x ++ drop p text) e)

-- the parts of a text that goes on behind its first part
further : (text : List ℕ) (n p : ℕ) → take (n + p) text ≡ take n text ++ take p (drop n text)
further text n p = take-add n p text

further_more : (text : List ℕ) (n p : ℕ) → take (n + p + 1) text ≡ take n text ++ take (p + 1) (drop n text)
further_more text n p = let same : n + p + 1 ≡ n + (p + 1) = omega arith in ap (λ (k : ℕ). take k text) same ∙ take-add n (p + 1) text

-- the text as its first part and what stands behind it, with a value of what stands there
only_rest : {A B : Type 0} (L : List ℕ → A → Type 0) (K : A → List ℕ → B → Type 0) (Q : ℕ → Type 0) (front z : List ℕ) (a : A) (b : B) → IsOnlyFront L K Q front a → IsNotLed Q z → Then L K (front ++ z) b → K a z b
only_rest {A} L K Q front z a b only not t =
    let same = only t.front t.behind z t.said b t.first t.second not t.are in
    let rest : t.behind ≡ z = sym (append_cancel_left front z t.behind (t.are ∙ ap (λ (x : List ℕ). x ++ t.behind) same.0)) in
    subst (λ (v : A). K v z b) same.1 (subst (λ (y : List ℕ). K t.said y b) rest t.second)

pub both_read : {A B : Type 0} (L : List ℕ → A → Type 0) (K : A → List ℕ → B → Type 0) (Q : ℕ → Type 0) (text : List ℕ) (n : ℕ) (a : A) (b : B) → L (take n text) a → IsNotLed Q (drop n text) → IsOnlyFront L K Q (take n text) a → IsRead (K a) (drop n text) b → IsRead (Then L K) text b
both_read L K Q text n a b here not only read = record {
  is = record { front = take n text; behind = drop n text; said = a; are = sym (take-append-drop n text); first = here; second = read.is };
  only = λ other t. read.only other (only_rest L K Q (take n text) (drop n text) a other only not (subst (λ (x : List ℕ). Then L K x other) (sym (take-append-drop n text)) t));
}

both-front : {A B : Type 0} (L : List ℕ → A → Type 0) (K : A → List ℕ → B → Type 0) (text : List ℕ) (n place : ℕ) (a : A) → L (take n text) a → Begins (K a) (take place (drop n text)) → Begins (Then L K) (take (n + place) text)
both-front L K text n place a here h =
    let e : take (n + place) text ++ h.0 ≡ take n text ++ (take place (drop n text) ++ h.0) = ap (λ (x : List ℕ). x ++ h.0) (further text n place) ∙ append_assoc (take n text) (take place (drop n text)) h.0 in
    (h.0, h.1, record { front = take n text; behind = take place (drop n text) ++ h.0; said = a; are = e; first = here; second = h.2 })

both-next : {A B : Type 0} (L : List ℕ → A → Type 0) (K : A → List ℕ → B → Type 0) (Q : ℕ → Type 0) (text : List ℕ) (n place : ℕ) (a : A) → IsNotLed Q (drop n text) → IsOnlyFront L K Q (take n text) a → IsStuck (K a) (drop n text) place → place < length (drop n text) → Begins (Then L K) (take (n + place + 1) text) → ⊥
both-next L K Q text n place a not only stuck inside h =
    let rest : List ℕ = take (place + 1) (drop n text) ++ h.0 in
    let e : take (n + place + 1) text ++ h.0 ≡ take n text ++ rest = ap (λ (x : List ℕ). x ++ h.0) (further_more text n place) ∙ append_assoc (take n text) (take (place + 1) (drop n text)) h.0 in
    let led : IsNotLed Q rest = same_lead Q (drop n text) rest (lead_more (drop n text) h.0 place inside) not in
    stuck.next inside (h.0, h.1, only_rest L K Q (take n text) rest a h.1 only led (subst (λ (x : List ℕ). Then L K x h.1) e h.2))

pub both_stuck : {A B : Type 0} (L : List ℕ → A → Type 0) (K : A → List ℕ → B → Type 0) (Q : ℕ → Type 0) (text : List ℕ) (n place : ℕ) (a : A) → n ≤ length text → L (take n text) a → IsNotLed Q (drop n text) → IsOnlyFront L K Q (take n text) a → IsStuck (K a) (drop n text) place → IsStuck (Then L K) text (n + place)
both_stuck L K Q text n place a within here not only stuck =
    let long = length-drop n text in
    record {
      within = omega (arith, long, stuck.within);
      front = both-front L K text n place a here stuck.front;
      next = λ inside. both-next L K Q text n place a not only stuck (omega (arith, long));
      short = λ whole b t. stuck.short (omega (arith, long)) b (only_rest L K Q (take n text) (drop n text) a b only not (subst (λ (x : List ℕ). Then L K x b) (sym (take-append-drop n text)) t));
    }

-- ---- the part in which a fault stands

count-append : (p : ℕ → Bool) (xs ys : List ℕ) → count_by p (xs ++ ys) ≡ count_by p xs + count_by p ys
count-append p xs ys = sum_by-append _ xs ys

pub colons-append : (xs ys : List ℕ) → colons (xs ++ ys) ≡ colons xs + colons ys
colons-append xs ys = count-append (λ b. b == 58) xs ys

pub brackets-append : (xs ys : List ℕ) → brackets (xs ++ ys) ≡ brackets xs + brackets ys
brackets-append xs ys = count-append (λ b. b == 91) xs ys

-- no text of both stands in front, where none of the second part does behind the first
both-none : {A B : Type 0} (L : List ℕ → A → Type 0) (K : A → List ℕ → B → Type 0) (Q : ℕ → Type 0) (text : List ℕ) (n place : ℕ) (a : A) → IsNotLed Q (drop n text) → IsOnlyFront L K Q (take n text) a → ((b : B) → K a (take place (drop n text)) b → ⊥) → (b : B) → Then L K (take (n + place) text) b → ⊥
both-none L K Q text n place a not only none b t =
    let led : IsNotLed Q (take place (drop n text)) = same_lead Q (drop n text) (take place (drop n text)) (lead_front (drop n text) place) not in
    none b (only_rest L K Q (take n text) (take place (drop n text)) a b only led (subst (λ (x : List ℕ). Then L K x b) (further text n place) t))

both-whole : {A B : Type 0} (L : List ℕ → A → Type 0) (K : A → List ℕ → B → Type 0) (text : List ℕ) (n place : ℕ) (a : A) (b : B) → L (take n text) a → K a (take place (drop n text)) b → Then L K (take (n + place) text) b
both-whole L K text n place a b here there = record { front = take n text; behind = take place (drop n text); said = a; are = further text n place; first = here; second = there }

pub both_part : {A B : Type 0} (L : List ℕ → A → Type 0) (K : A → List ℕ → B → Type 0) (Q : ℕ → Type 0) (before opened : ℕ) (text : List ℕ) (n place : ℕ) (a : A) (why : TagWhy) → L (take n text) a → IsNotLed Q (drop n text) → IsOnlyFront L K Q (take n text) a → IsPart (K a) (before + colons (take n text)) (opened + brackets (take n text)) (take place (drop n text)) why → IsPart (Then L K) before opened (take (n + place) text) why
both_part L K Q before opened text n place a Area here not only part =
    let long = ap colons (further text n place) ∙ colons-append (take n text) (take place (drop n text)) in omega (arith, long, part)
both_part L K Q before opened text n place a Number here not only part =
    let long = ap colons (further text n place) ∙ colons-append (take n text) (take place (drop n text)) in omega (arith, long, part)
both_part L K Q before opened text n place a Bit here not only part = part
both_part L K Q before opened text n place a «Type» here not only part =
    let long = ap colons (further text n place) ∙ colons-append (take n text) (take place (drop n text)) in
    let inner = ap brackets (further text n place) ∙ brackets-append (take n text) (take place (drop n text)) in
    (omega (arith, long, part.0), omega (arith, inner, part.1), both-none L K Q text n place a not only part.2)
both_part L K Q before opened text n place a Size here not only part = part
both_part L K Q before opened text n place a Count here not only part =
    let long = ap colons (further text n place) ∙ colons-append (take n text) (take place (drop n text)) in
    let inner = ap brackets (further text n place) ∙ brackets-append (take n text) (take place (drop n text)) in
    (omega (arith, long, part.0), omega (arith, inner, part.1), both-none L K Q text n place a not only part.2)
both_part L K Q before opened text n place a End here not only part =
    (part.0, both-whole L K text n place a part.0 here part.1)

pub both_refused : {A B : Type 0} (L : List ℕ → A → Type 0) (K : A → List ℕ → B → Type 0) (Q : ℕ → Type 0) (before opened : ℕ) (text : List ℕ) (n place : ℕ) (a : A) (why : TagWhy) → n ≤ length text → L (take n text) a → IsNotLed Q (drop n text) → IsOnlyFront L K Q (take n text) a → IsRefusal (K a) (before + colons (take n text)) (opened + brackets (take n text)) (drop n text) place why → IsRefusal (Then L K) before opened text (n + place) why
both_refused L K Q before opened text n place a why within here not only refused = record {
  at = both_stuck L K Q text n place a within here not only refused.at;
  part = λ inside. both_part L K Q before opened text n place a why here not only (refused.part (omega (arith, length-drop n text)));
}

-- ---- the same texts, of which another value is said

abbrev pub AreSaid : {A B : Type 0} → (List ℕ → A → Type 0) → (List ℕ → B → Type 0) → Type 0
AreSaid {A} {B} L M = (text : List ℕ) (a : A) → L text a → (b : B) × M text b

said_begins : {A B : Type 0} (L : List ℕ → A → Type 0) (M : List ℕ → B → Type 0) (text : List ℕ) → AreSaid L M → Begins L text → Begins M text
said_begins L M text to h = let b = to (text ++ h.0) h.1 h.2 in (h.0, b.0, b.1)

pub said_stuck : {A B : Type 0} (L : List ℕ → A → Type 0) (M : List ℕ → B → Type 0) (text : List ℕ) (place : ℕ) → AreSaid L M → AreSaid M L → IsStuck L text place → IsStuck M text place
said_stuck L M text place to from stuck = record {
  within = stuck.within;
  front = said_begins L M (take place text) to stuck.front;
  next = λ inside h. stuck.next inside (said_begins M L (take (place + 1) text) from h);
  short = λ whole b m. let l = from text b m in stuck.short whole l.0 l.1;
}

pub said_part : {A B : Type 0} (L : List ℕ → A → Type 0) (M : List ℕ → B → Type 0) (before opened : ℕ) (front : List ℕ) (why : TagWhy) → AreSaid L M → AreSaid M L → IsPart L before opened front why → IsPart M before opened front why
said_part L M before opened front Area to from part = part
said_part L M before opened front Number to from part = part
said_part L M before opened front Bit to from part = part
said_part L M before opened front «Type» to from part = (part.0, part.1, λ b m. let l = from front b m in part.2 l.0 l.1)
said_part L M before opened front Size to from part = part
said_part L M before opened front Count to from part = (part.0, part.1, λ b m. let l = from front b m in part.2 l.0 l.1)
said_part L M before opened front End to from part = to front part.0 part.1

pub said_refused : {A B : Type 0} (L : List ℕ → A → Type 0) (M : List ℕ → B → Type 0) (before opened : ℕ) (text : List ℕ) (place : ℕ) (why : TagWhy) → AreSaid L M → AreSaid M L → IsRefusal L before opened text place why → IsRefusal M before opened text place why
said_refused L M before opened text place why to from refused = record {
  at = said_stuck L M text place to from refused.at;
  part = λ inside. said_part L M before opened (take place text) why to from (refused.part inside);
}

-- ---- texts that begin with one byte, in a language that has other texts too

pub narrow_read : {A : Type 0} (L M : List ℕ → A → Type 0) (b : ℕ) (text : List ℕ) (value : A) → ((t : List ℕ) (v : A) → L t v → M t v) → ((r : List ℕ) (v : A) → M (b ∷ r) v → L (b ∷ r) v) → IsRead L (b ∷ text) value → IsRead M (b ∷ text) value
narrow_read L M b text value to from read = record { is = to (b ∷ text) value read.is; only = λ other m. read.only other (from text other m) }

pub narrow_stuck : {A : Type 0} (L M : List ℕ → A → Type 0) (b : ℕ) (text : List ℕ) (place : ℕ) → ((t : List ℕ) (v : A) → L t v → M t v) → ((r : List ℕ) (v : A) → M (b ∷ r) v → L (b ∷ r) v) → IsStuck L (b ∷ text) place → IsStuck M (b ∷ text) place
narrow_stuck {A} L M b text place to from stuck =
    let split : take (place + 1) (b ∷ text) ≡ b ∷ take place text = rw add-one refl in
    record {
      within = stuck.within;
      front = (stuck.front.0, stuck.front.1, to (take place (b ∷ text) ++ stuck.front.0) stuck.front.1 stuck.front.2);
      next = λ inside h.
          let led = subst (λ (x : List ℕ). M (x ++ h.0) h.1) split h.2 in
          stuck.next inside (h.0, h.1, subst (λ (x : List ℕ). L (x ++ h.0) h.1) (sym split) (from (take place text ++ h.0) h.1 led));
      short = λ whole v m. stuck.short whole v (from text v m);
    }
