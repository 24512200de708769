-- Tags, and the stages in which they are read.
use Rattle.std.proofs.Common.{◌≡◌, ℕ, ◌+◌, ◌<◌, ◌≤◌, ◌==◌, cond, List, [], ◌∷◌, ◌++◌, length, take, drop, refl, sym, ap, ◌∙◌, subst, inl, inr, arith, decimal, length-append}
use Rattle.std.proofs.lemmas.Bool.{cases_eq, cases_lt, cond-true, cond-false, eq-eqb, ne_eqb}
use Rattle.std.proofs.lemmas.Fmt.{length-decimal-le}
use Rattle.std.proofs.lemmas.List.{length-take-le, take-append-drop}
use Rattle.std.proofs.Math.Nat.{mul-le-mul_left}
use Rattle.wire_frames.specs.declared.kinds.Area.{Area}
use Rattle.wire_frames.specs.declared.kinds.Area.TheVariants.{Coil, DiscreteInput, InputRegister, HoldingRegister, S7Input, S7Output, S7Flag, S7Block}
use Rattle.wire_frames.specs.declared.kinds.Item.{Item}
use Rattle.wire_frames.specs.declared.kinds.PlcType.{PlcType}
use Rattle.wire_frames.specs.declared.kinds.PlcType.TheVariants as types
use Rattle.tag_address.specs.declared.tags.TagKind.{TagKind}
use Rattle.tag_address.specs.declared.tags.TagKind.TheVariants as kinds
use Rattle.tag_address.specs.declared.tags.TagWhy.{TagWhy}
use Rattle.tag_address.specs.declared.tags.TagWhy.TheVariants as whys
use Rattle.tag_address.specs.Parts.{IsItemOf, IsRead, IsRefusal, IsStuck, IsWhole}
use Rattle.tag_address.specs.Tags.{Holds, IsCount, IsModbusItem, IsModbusTag, IsPart, IsRefused, IsTag, area_text, in_brackets, printed, type_text, width_of, with_count}
use Rattle.tag_address.proofs.Languages.{said_part, said_stuck}
use Rattle.tag_address.proofs.StageLaws.{item_fits}
use Rattle.tag_address.proofs.TableLaws.{area_among, fitting, one_fits}

-- ---- a tag is what its stages say

tag_text : (item : Item) (area : Area) (number : ℕ) (kind : PlcType) (tail : List ℕ) → IsItemOf area number kind item → area_text area ++ (decimal number ++ (58 ∷ (type_text kind ++ tail))) ≡ with_count item tail
tag_text item area number kind tail h =
    ap (λ (a : Area). area_text a ++ (decimal number ++ (58 ∷ (type_text kind ++ tail)))) (sym h.area_is)
    ∙ ap (λ (n : ℕ). area_text item.area ++ (decimal n ++ (58 ∷ (type_text kind ++ tail)))) (sym h.number_is)
    ∙ ap (λ (k : PlcType). area_text item.area ++ (decimal (item.start + 1) ++ (58 ∷ (type_text k ++ tail)))) (sym h.kind_is)

pub cut_as : (text front behind word rest : List ℕ) → text ≡ front ++ behind → front ≡ word → behind ≡ rest → text ≡ word ++ rest
cut_as text front behind word rest are is more = are ∙ ap (λ (x : List ℕ). x ++ behind) is ∙ ap (λ (x : List ℕ). word ++ x) more

pub to_tag : (text : List ℕ) (item : Item) → IsWhole text item → IsModbusTag text item
to_tag text item h =
    let number = h.second in
    let colon = number.second in
    let kind = colon.second in
    let tail : List ℕ = kind.behind in
    let behind_colon : colon.behind ≡ type_text kind.said ++ tail = cut_as colon.behind kind.front tail (type_text kind.said) tail kind.are kind.first.1 refl in
    let behind_number : number.behind ≡ 58 ∷ (type_text kind.said ++ tail) = cut_as number.behind colon.front colon.behind (58 ∷ []) (type_text kind.said ++ tail) colon.are colon.first.0 behind_colon in
    let behind_area : h.behind ≡ decimal number.said ++ (58 ∷ (type_text kind.said ++ tail)) = cut_as h.behind number.front number.behind (decimal number.said) (58 ∷ (type_text kind.said ++ tail)) number.are number.first.0 behind_number in
    let whole : text ≡ area_text h.said ++ (decimal number.said ++ (58 ∷ (type_text kind.said ++ tail))) = cut_as text h.front h.behind (area_text h.said) (decimal number.said ++ (58 ∷ (type_text kind.said ++ tail))) h.are h.first.1 behind_area in
    record {
      item_is = kind.second.item_of.item_is;
      count = tail;
      count_is = kind.second.count_is;
      text_is = whole ∙ tag_text item h.said number.said kind.said tail kind.second.item_of;
    }

width_some : (area : Area) (kind : PlcType) (count : ℕ) → Holds area kind count → 0 < width_of kind
width_some Coil kind count h = let one = ap width_of h in omega (arith, one)
width_some DiscreteInput kind count h = let one = ap width_of h in omega (arith, one)
width_some InputRegister kind count h = h.0
width_some HoldingRegister kind count h = h.0
width_some S7Input kind count h = absurd h
width_some S7Output kind count h = absurd h
width_some S7Flag kind count h = absurd h
width_some S7Block kind count h = absurd h

pub start_below : (item : Item) → IsModbusItem item → item.start ≤ 65535
start_below item h =
    let some = width_some item.area item.kind item.count h.holds in
    let least = mul-le-mul_left (width_of item.kind) h.some in
    omega (arith, some, least, h.ends)

pub from_tag : (text : List ℕ) (item : Item) → IsModbusTag text item → IsWhole text item
from_tag text item h =
    let start = start_below item h.item_is in
    let fits = one_fits item.area (item.start + 1) item.kind item.count (item_fits item h.item_is) in
    let typed : List ℕ = type_text item.kind ++ h.count in
    let numbered : List ℕ = decimal (item.start + 1) ++ (58 ∷ typed) in
    record {
      front = area_text item.area;
      behind = numbered;
      said = item.area;
      are = h.text_is;
      first = (area_among item.area item.kind item.count h.item_is.holds, refl);
      second = record {
        front = decimal (item.start + 1);
        behind = 58 ∷ typed;
        said = item.start + 1;
        are = refl;
        first = (refl, omega arith, omega (arith, start));
        second = record {
          front = 58 ∷ [];
          behind = typed;
          said = 58;
          are = refl;
          first = (refl, refl);
          second = record {
            front = type_text item.kind;
            behind = h.count;
            said = item.kind;
            are = refl;
            first = (fitting item.area (item.start + 1) item.kind fits, refl);
            second = record { item_of = record { item_is = h.item_is; area_is = refl; number_is = refl; kind_is = refl }; count_is = h.count_is };
          };
        };
      };
    }

-- ---- how long a tag is

pub area_length : (area : Area) → length (area_text area) ≤ 17
area_length Coil = omega arith
area_length DiscreteInput = omega arith
area_length InputRegister = omega arith
area_length HoldingRegister = omega arith
area_length S7Input = omega arith
area_length S7Output = omega arith
area_length S7Flag = omega arith
area_length S7Block = omega arith

pub type_length : (kind : PlcType) → length (type_text kind) ≤ 5
type_length types.Bool = omega arith
type_length types.Byte = omega arith
type_length types.Word = omega arith
type_length types.Dword = omega arith
type_length types.Lword = omega arith
type_length types.Sint = omega arith
type_length types.Usint = omega arith
type_length types.Int = omega arith
type_length types.Uint = omega arith
type_length types.Dint = omega arith
type_length types.Udint = omega arith
type_length types.Lint = omega arith
type_length types.Ulint = omega arith
type_length types.Real = omega arith
type_length types.Lreal = omega arith

pub number_length : (n : ℕ) → n ≤ 65536 → length (decimal n) ≤ 5
number_length n low = length-decimal-le 5 n (omega arith) (omega arith) (omega arith)

pub count_length : (count : ℕ) (text : List ℕ) → count ≤ 65535 → IsCount count text → length text ≤ 7
count_length count text most (inl e) =
    let digits = number_length count (omega arith) in
    let long = ap length e in
    let inner = length-append (decimal count) (93 ∷ []) in
    omega (arith, digits, long, inner)
count_length count text most (inr h) = let long = ap length h.1 in omega (arith, long)

pub text_length : (item : Item) (count : List ℕ) → IsModbusItem item → length (with_count item count) ≤ 28 + length count
text_length item count h =
    let start = start_below item h in
    let area = area_length item.area in
    let number = number_length (item.start + 1) (omega (arith, start)) in
    let kind = type_length item.kind in
    let one = length-append (area_text item.area) (decimal (item.start + 1) ++ (58 ∷ (type_text item.kind ++ count))) in
    let two = length-append (decimal (item.start + 1)) (58 ∷ (type_text item.kind ++ count)) in
    let three = length-append (type_text item.kind) count in
    omega (arith, area, number, kind, one, two, three)

pub with_count_length : (item : Item) (count : List ℕ) → IsModbusItem item → IsCount item.count count → length (with_count item count) ≤ 35
with_count_length item count h is =
    let tail = count_length item.count count h.most is in
    let whole = text_length item count h in
    omega (arith, tail, whole)

pub tag_length : (text : List ℕ) (item : Item) → IsModbusTag text item → length text ≤ 35
tag_length text item h = let long = ap length h.text_is in let most = with_count_length item h.count h.item_is h.count_is in omega (arith, long, most)

-- ---- what is read, and what is refused

pub modbus_exact : (text : List ℕ) (item other : Item) → IsRead IsWhole text item → IsTag kinds.Modbus text other → other ≡ item
modbus_exact text item other h tag = h.only other (from_tag text other tag)

-- no text that is refused is a tag
pub refused_none : {A : Type 0} (L : List ℕ → A → Type 0) (text : List ℕ) (place : ℕ) (value : A) → IsStuck L text place → L text value → ⊥
refused_none L text place value stuck tag =
    elim (cases_lt place (length text)) [
      | inl inside ↦ stuck.next inside (drop (place + 1) text, value, subst (λ (x : List ℕ). L x value) (sym (take-append-drop (place + 1) text)) tag)
      | inr past ↦ (let whole : place ≡ length text = omega (arith, stuck.within) in stuck.short whole value tag)
    ]

pub refused_at : (text : List ℕ) (place : ℕ) (why : TagWhy) → IsRefusal IsWhole 0 0 text place why → place ≤ 35
refused_at text place why refused =
    let begins = refused.at.front in
    let long = tag_length (take place text ++ begins.0) begins.1 (to_tag (take place text ++ begins.0) begins.1 begins.2) in
    let cut = length-take-le place text refused.at.within in
    let both = length-append (take place text) begins.0 in
    omega (arith, long, cut, both)

pub modbus_refused : (text : List ℕ) (place : ℕ) (why told : TagWhy) → IsRefusal IsWhole 0 0 text place why → (place ≡ length text → told ≡ whys.End) → (place < length text → told ≡ why) → IsRefused kinds.Modbus text place told
modbus_refused text place why told refused early same =
    let to : (t : List ℕ) (i : Item) → IsWhole t i → (o : Item) × IsModbusTag t o = λ t i h. (i, to_tag t i h) in
    let from : (t : List ℕ) (i : Item) → IsModbusTag t i → (o : Item) × IsWhole t o = λ t i h. (i, from_tag t i h) in
    let stuck = said_stuck IsWhole IsModbusTag text place to from refused.at in
    record {
      at = record { within = stuck.within; front = λ _. stuck.front; next = stuck.next; short = stuck.short };
      early = early;
      part = λ inside. subst (IsPart IsModbusTag 0 0 (take place text)) (sym (same inside)) (said_part IsWhole IsModbusTag 0 0 (take place text) why to from (refused.part inside));
    }

-- ---- the printed text

pub printed_count : (count : ℕ) → IsCount count (cond (count == 1) [] (in_brackets count))
printed_count count =
    elim (cases_eq count 1) [
      | inl one ↦ inr (one, cond-true (count == 1) [] (in_brackets count) (eq-eqb count 1 one))
      | inr more ↦ inl (cond-false (count == 1) [] (in_brackets count) (ne_eqb count 1 more))
    ]

pub printed_tag : (item : Item) → IsModbusItem item → IsModbusTag (printed item) item
printed_tag item h = record { item_is = h; count = cond (item.count == 1) [] (in_brackets item.count); count_is = printed_count item.count; text_is = refl }

pub printed_is_tag : (kind : TagKind) (text : List ℕ) (item : Item) → IsTag kind text item → IsTag kind (printed item) item
printed_is_tag kinds.Modbus text item h = printed_tag item h.item_is
printed_is_tag kinds.S7 text item h = absurd h

pub item_of_tag : (kind : TagKind) (text : List ℕ) (item : Item) → IsTag kind text item → IsModbusItem item
item_of_tag kinds.Modbus text item h = h.item_is
item_of_tag kinds.S7 text item h = absurd h
