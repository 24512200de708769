-- The stages of a tag: what its parts and what stands behind them tell of it.
use Rattle.std.proofs.Common.{◌≡◌, ℕ, ◌+◌, ◌-◌, ◌<◌, ◌≤◌, ◌↔◌, List, [], ◌∷◌, ◌++◌, length, take, drop, refl, sym, ap, ◌∙◌, subst, inr, arith, decimal}
use Rattle.std.specs.List.{Contains}
use Rattle.std.proofs.lemmas.List.{append-nil}
use Rattle.wire_frames.specs.declared.kinds.Area.{Area}
use Rattle.wire_frames.specs.declared.kinds.Item.{Item}
use Rattle.wire_frames.specs.declared.kinds.PlcType.{PlcType}
use Rattle.wire_frames.specs.declared.kinds.PlcType.TheVariants as types
use Rattle.tag_address.specs.declared.tags.TagWhy.{TagWhy}
use Rattle.tag_address.specs.declared.tags.TagWhy.TheVariants as whys
use Rattle.tag_address.specs.Places.{Begins}
use Rattle.tag_address.specs.Parts.{Fits, GoesOn, IsBehindArea, IsBehindColon, IsBehindNumber, IsBehindType, IsColon, IsCountUpTo, IsItemOf, IsNotLed, IsNumber, IsNumberAt, IsRead, IsRefusal, IsStuckPart, IsWhole, IsWord, IsWordAt, modbus_areas, types_for}
use Rattle.tag_address.specs.Tags.{IsModbusItem, area_text, brackets, colons, type_text}
use Rattle.tag_address.proofs.CountLaws.{with_number}
use Rattle.tag_address.proofs.Languages.{IsFull, IsOnlyFront, both_read, both_refused, brackets-append, colons-append, said_refused, stop, stop-none}
use Rattle.tag_address.proofs.NumberLaws.{IsDigit, only_number}
use Rattle.tag_address.proofs.TableLaws.{area_clear, area_front, areas_apart, fitting, flag, types_apart, types_clear, types_fit}
use Rattle.tag_address.proofs.WordLaws.{only_word}

-- nothing is led by a byte of no kind
abbrev pub Never : ℕ → Type 0
Never b = ⊥

pub never_led : (text : List ℕ) → IsNotLed Never text
never_led text b r e h = h

-- ---- behind the type

abbrev pub made : Area → ℕ → PlcType → ℕ → Item
made area number kind count = record { area = area; block = 0; start = number - 1; bit = 0; kind = kind; count = count }

pub made_is : (area : Area) (number : ℕ) (kind : PlcType) (count : ℕ) → 1 ≤ number → Fits area number kind count → IsItemOf area number kind (made area number kind count)
made_is area number kind count low h = record {
  item_is = record { holds = h.holds; some = h.some; most = h.most; ends = omega (arith, h.ends); block = refl; bit = refl };
  area_is = refl;
  number_is = omega arith;
  kind_is = refl;
}

pub item_fits : (item : Item) → IsModbusItem item → Fits item.area (item.start + 1) item.kind item.count
item_fits item h = record { holds = h.holds; some = h.some; most = h.most; ends = omega (arith, h.ends) }

pub of_fits : (area : Area) (number : ℕ) (kind : PlcType) (item : Item) → IsItemOf area number kind item → Fits area number kind item.count
of_fits area number kind item h =
    subst (λ (k : PlcType). Fits area number k item.count) h.kind_is
    (subst (λ (n : ℕ). Fits area n item.kind item.count) h.number_is
    (subst (λ (a : Area). Fits a (item.start + 1) item.kind item.count) h.area_is (item_fits item h.item_is)))

-- the count of a type, as the item that has it
pub type_refused : (area : Area) (number : ℕ) (kind : PlcType) (most : ℕ) (text : List ℕ) (place : ℕ) (why : TagWhy) → 1 ≤ number → ((count : ℕ) → Fits area number kind count ↔ ((1 ≤ count) × (count ≤ most))) → IsRefusal (IsCountUpTo most) 2 0 text place why → IsRefusal (IsBehindType area number kind) 2 0 text place why
type_refused area number kind most text place why low all =
    said_refused (IsCountUpTo most) (IsBehindType area number kind) 2 0 text place why
    (λ t count h. (made area number kind count, record { item_of = made_is area number kind count low ((all count).1 (h.1, h.2)); count_is = h.0 }))
    (λ t item h. let bounds = (all item.count).0 (of_fits area number kind item h.item_of) in (item.count, (h.count_is, bounds.0, bounds.1)))

-- ---- behind the second colon

pub type_full : (area : Area) (number : ℕ) → 1 ≤ number → number ≤ 65536 → IsFull (IsWord type_text (types_for area number)) (IsBehindType area number)
type_full area number low high x kind h =
    let fits = types_fit area number kind high h.0 in
    ([], made area number kind 1, record { item_of = made_is area number kind 1 low fits; count_is = inr (refl, refl) })

abbrev IsTypeWord : Area → ℕ → List ℕ → PlcType → Type 0
IsTypeWord area number x kind = IsWord type_text (types_for area number) x kind

only_type : (area : Area) (number : ℕ) (front : List ℕ) (kind : PlcType) → IsTypeWord area number front kind → IsOnlyFront (IsTypeWord area number) (IsBehindType area number) Never front kind
only_type area number front kind h = only_word type_text (types_for area number) (IsBehindType area number) front kind (types_apart area number) h

-- a front of a type's name has no colon and no bracket
type_front : (front rest : List ℕ) (kind : PlcType) → front ++ rest ≡ type_text kind → (colons front ≡ 0) × (brackets front ≡ 0)
type_front front rest kind e =
    let clear = types_clear kind in
    let colon = sym (colons-append front rest) ∙ ap colons e ∙ clear.0 in
    let bracket = sym (brackets-append front rest) ∙ ap brackets e ∙ clear.1 in
    (omega (arith, colon), omega (arith, bracket))

pub no_type : (area : Area) (number : ℕ) (text : List ℕ) (place : ℕ) → 1 ≤ number → number ≤ 65536 → IsStuckPart (IsWord type_text (types_for area number)) text place → IsRefusal (IsBehindColon area number) 2 0 text place whys.Type
no_type area number text place low high stuck =
    let clear = type_front (take place text) stuck.front.0 stuck.front.1 stuck.front.2.1 in
    record {
      at = stop (IsTypeWord area number) (IsBehindType area number) text place (type_full area number low high) stuck;
      part = λ inside. (omega (arith, clear.0), omega (arith, clear.1), stop-none (IsTypeWord area number) (IsBehindType area number) text place stuck);
    }

pub type_read : (area : Area) (number : ℕ) (text : List ℕ) (kind : PlcType) (used : ℕ) (item : Item) → IsWordAt type_text (types_for area number) text kind used → IsRead (IsBehindType area number kind) (drop used text) item → IsRead (IsBehindColon area number) text item
type_read area number text kind used item at read =
    both_read (IsTypeWord area number) (IsBehindType area number) Never text used kind item at.is (never_led (drop used text)) (only_type area number (take used text) kind at.is) read

-- a word with so many colons and brackets
recount : {A : Type 0} (L : List ℕ → A → Type 0) (before opened colon bracket : ℕ) (x word text : List ℕ) (place : ℕ) (why : TagWhy) → x ≡ word → colons word ≡ colon → brackets word ≡ bracket → IsRefusal L (before + colon) (opened + bracket) text place why → IsRefusal L (before + colons x) (opened + brackets x) text place why
recount L before opened colon bracket x word text place why is c b refused =
    subst (λ (k : ℕ). IsRefusal L (before + colons x) (opened + k) text place why) (sym (ap brackets is ∙ b))
    (subst (λ (k : ℕ). IsRefusal L (before + k) (opened + bracket) text place why) (sym (ap colons is ∙ c)) refused)

pub behind_type_refused : (area : Area) (number : ℕ) (text : List ℕ) (kind : PlcType) (used place : ℕ) (why : TagWhy) → IsWordAt type_text (types_for area number) text kind used → IsRefusal (IsBehindType area number kind) 2 0 (drop used text) place why → IsRefusal (IsBehindColon area number) 2 0 text (used + place) why
behind_type_refused area number text kind used place why at refused =
    both_refused (IsTypeWord area number) (IsBehindType area number) Never 2 0 text used place kind why at.within at.is (never_led (drop used text)) (only_type area number (take used text) kind at.is)
    (recount (IsBehindType area number kind) 2 0 0 0 (take used text) (type_text kind) (drop used text) place why at.is.1 (types_clear kind).0 (types_clear kind).1 refused)

-- ---- behind the number

colon_full : (area : Area) (number : ℕ) → Contains modbus_areas area → 1 ≤ number → number ≤ 65536 → IsFull IsColon (λ _. IsBehindColon area number)
colon_full area number known low high x said h =
    let bits = flag area number known high in
    let word : IsTypeWord area number (type_text types.Bool) types.Bool = (fitting area number types.Bool bits, refl) in
    let more = type_full area number low high (type_text types.Bool) types.Bool word in
    (type_text types.Bool ++ more.0, more.1, record { front = type_text types.Bool; behind = more.0; said = types.Bool; are = refl; first = word; second = more.2 })

colon-next : (text : List ℕ) → IsNotLed (λ b. b ≡ 58) text → 0 < length text → Begins IsColon (take (0 + 1) text) → ⊥
colon-next [] not some h = omega arith
colon-next (b ∷ text) not some h = let same : b ≡ 58 = (let e : b ∷ h.0 ≡ 58 ∷ [] = h.2.0 in cc) in not b text refl same

no_colon_part : (text : List ℕ) → IsNotLed (λ b. b ≡ 58) text → IsStuckPart IsColon text 0
no_colon_part text not = record {
  within = omega arith;
  front = (58 ∷ [], 58, (refl, refl));
  none = λ x r said e h. let long = ap length e ∙ ap (λ (w : List ℕ). length (w ++ r)) h.0 in omega (arith, long);
  next = colon-next text not;
}

pub no_colon : (area : Area) (number : ℕ) (text : List ℕ) → Contains modbus_areas area → 1 ≤ number → number ≤ 65536 → IsNotLed (λ b. b ≡ 58) text → IsRefusal (IsBehindNumber area number) 1 0 text 0 whys.Number
no_colon area number text known low high not = record {
  at = stop IsColon (λ _. IsBehindColon area number) text 0 (colon_full area number known low high) (no_colon_part text not);
  part = λ inside. refl;
}

only_colon : (area : Area) (number : ℕ) → IsOnlyFront IsColon (λ _. IsBehindColon area number) Never (58 ∷ []) 58
only_colon area number x y z other b l k not e = (l.0, l.1)

pub colon_read : (area : Area) (number : ℕ) (text : List ℕ) (item : Item) → IsRead (IsBehindColon area number) text item → IsRead (IsBehindNumber area number) (58 ∷ text) item
colon_read area number text item read =
    both_read IsColon (λ _. IsBehindColon area number) Never (58 ∷ text) 1 58 item (refl, refl) (never_led text) (only_colon area number) read

pub behind_colon_refused : (area : Area) (number : ℕ) (text : List ℕ) (place : ℕ) (why : TagWhy) → IsRefusal (IsBehindColon area number) 2 0 text place why → IsRefusal (IsBehindNumber area number) 1 0 (58 ∷ text) (1 + place) why
behind_colon_refused area number text place why refused =
    both_refused IsColon (λ _. IsBehindColon area number) Never 1 0 (58 ∷ text) 1 place 58 why (omega arith) (refl, refl) (never_led text) (only_colon area number) refused

-- ---- behind the area

number_ends : (area : Area) (n : ℕ) (y : List ℕ) (item : Item) → IsBehindNumber area n y item → IsNotLed IsDigit y
number_ends area n y item h b r e digit =
    let begins : y ≡ 58 ∷ h.behind = h.are ∙ ap (λ (x : List ℕ). x ++ h.behind) h.first.0 in
    let same : b ≡ 58 = (let both : b ∷ r ≡ 58 ∷ h.behind = sym e ∙ begins in cc) in
    omega (arith, digit, same)

number_full : (area : Area) → Contains modbus_areas area → IsFull (IsNumber 1 65536) (IsBehindNumber area)
number_full area known x n h =
    let more = colon_full area n known h.1 h.2 (58 ∷ []) 58 (refl, refl) in
    ((58 ∷ []) ++ more.0, more.1, record { front = 58 ∷ []; behind = more.0; said = 58; are = refl; first = (refl, refl); second = more.2 })

only_place : (area : Area) (front : List ℕ) (n : ℕ) → IsNumber 1 65536 front n → IsOnlyFront (IsNumber 1 65536) (IsBehindNumber area) (GoesOn n 65536) front n
only_place area front n h = only_number (IsBehindNumber area) 1 65536 front n (omega arith) h (number_ends area)

pub no_place : (area : Area) (text : List ℕ) → Contains modbus_areas area → IsStuckPart (IsNumber 1 65536) text 0 → IsRefusal (IsBehindArea area) 1 0 text 0 whys.Number
no_place area text known stuck = record {
  at = stop (IsNumber 1 65536) (IsBehindNumber area) text 0 (number_full area known) stuck;
  part = λ inside. refl;
}

pub place_read : (area : Area) (text : List ℕ) (n used : ℕ) (item : Item) → IsNumberAt 1 65536 text n used → IsRead (IsBehindNumber area n) (drop used text) item → IsRead (IsBehindArea area) text item
place_read area text n used item at read =
    both_read (IsNumber 1 65536) (IsBehindNumber area) (GoesOn n 65536) text used n item at.is at.longest (only_place area (take used text) n at.is) read

pub behind_number_refused : (area : Area) (text : List ℕ) (n used place : ℕ) (why : TagWhy) → IsNumberAt 1 65536 text n used → IsRefusal (IsBehindNumber area n) 1 0 (drop used text) place why → IsRefusal (IsBehindArea area) 1 0 text (used + place) why
behind_number_refused area text n used place why at refused =
    both_refused (IsNumber 1 65536) (IsBehindNumber area) (GoesOn n 65536) 1 0 text used place n why at.within at.is at.longest (only_place area (take used text) n at.is)
    (with_number (IsBehindNumber area n) 1 0 1 65536 n place (take used text) (drop used text) why (omega arith) at.is refused)

-- ---- the whole

abbrev IsAreaWord : List ℕ → Area → Type 0
IsAreaWord x area = IsWord area_text modbus_areas x area

area_full : IsFull IsAreaWord IsBehindArea
area_full x area h =
    let number : IsNumber 1 65536 (decimal 1) 1 = (refl, omega arith, omega arith) in
    let more = number_full area h.0 (decimal 1) 1 number in
    (decimal 1 ++ more.0, more.1, record { front = decimal 1; behind = more.0; said = 1; are = refl; first = number; second = more.2 })

only_area : (front : List ℕ) (area : Area) → IsAreaWord front area → IsOnlyFront IsAreaWord IsBehindArea Never front area
only_area front area h = only_word area_text modbus_areas IsBehindArea front area areas_apart h

no_whole_word : (text rest : List ℕ) (place : ℕ) (area : Area) → IsStuckPart IsAreaWord text place → IsAreaWord (take place text ++ rest) area → rest ≡ [] → ⊥
no_whole_word text rest place area stuck h none =
    let same : take place text ++ rest ≡ take place text = ap (λ (r : List ℕ). take place text ++ r) none ∙ append-nil (take place text) in
    stuck.none (take place text) [] area (sym (append-nil (take place text))) (subst (λ (x : List ℕ). IsAreaWord x area) same h)

pub no_area_word : (text : List ℕ) (place : ℕ) → IsStuckPart (IsWord area_text modbus_areas) text place → IsRefusal IsWhole 0 0 text place whys.Area
no_area_word text place stuck =
    let clear = area_front stuck.front.1 (take place text) stuck.front.0 stuck.front.2.1 (no_whole_word text stuck.front.0 place stuck.front.1 stuck stuck.front.2) in
    record {
      at = stop IsAreaWord IsBehindArea text place area_full stuck;
      part = λ inside. omega (arith, clear);
    }

pub area_read : (text : List ℕ) (area : Area) (used : ℕ) (item : Item) → IsWordAt area_text modbus_areas text area used → IsRead (IsBehindArea area) (drop used text) item → IsRead IsWhole text item
area_read text area used item at read =
    both_read IsAreaWord IsBehindArea Never text used area item at.is (never_led (drop used text)) (only_area (take used text) area at.is) read

pub behind_area_refused : (text : List ℕ) (area : Area) (used place : ℕ) (why : TagWhy) → IsWordAt area_text modbus_areas text area used → IsRefusal (IsBehindArea area) 1 0 (drop used text) place why → IsRefusal IsWhole 0 0 text (used + place) why
behind_area_refused text area used place why at refused =
    let clear = area_clear area at.is.0 in
    both_refused IsAreaWord IsBehindArea Never 0 0 text used place area why at.within at.is (never_led (drop used text)) (only_area (take used text) area at.is)
    (recount (IsBehindArea area) 0 0 1 0 (take used text) (area_text area) (drop used text) place why at.is.1 clear.0 clear.1 refused)
