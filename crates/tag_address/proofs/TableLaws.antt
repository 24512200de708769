-- The table of areas and types.
use Rattle.std.proofs.Common.{◌≡◌, ℕ, ◌+◌, ◌*◌, ◌<◌, ◌≤◌, ◌&&◌, true, List, [], ◌∷◌, ◌++◌, length, take, get_or, refl, sym, ap, ◌∙◌, subst, inl, inr, arith, nat_le, codes, map, zero, suc}
use Rattle.std.specs.List.{Contains, list_all}
use Rattle.std.proofs.lemmas.Bool.{and_parts, cases_lt, leb-true, le-leb, lt-leb}
use Rattle.std.proofs.lemmas.List.{append-nil, get_or-take, length-take-le}
use Rattle.wire_frames.specs.declared.kinds.Area.{Area}
use Rattle.wire_frames.specs.declared.kinds.Area.TheVariants.{Coil, DiscreteInput, InputRegister, HoldingRegister, S7Input, S7Output, S7Flag, S7Block}
use Rattle.wire_frames.specs.declared.kinds.PlcType.{PlcType}
use Rattle.wire_frames.specs.declared.kinds.PlcType.TheVariants as types
use Rattle.tag_address.specs.Parts.{Fits, modbus_areas, types_at, types_by_width, types_for}
use Rattle.tag_address.specs.Tags.{Holds, area_text, brackets, colons, type_text, width_of}
use Rattle.std.proofs.Math.Nat.{mul-le-mul_left}
use Rattle.tag_address.proofs.Languages.{colons-append}
use Rattle.tag_address.proofs.Splits.{are_cut}
use Rattle.tag_address.proofs.WordLaws.{all_at, are_apart}

-- ---- words of the table

-- an area that has no word isn't among those of Modbus
no_area : {P : Type 0} (area : Area) → length (area_text area) ≡ 0 → Contains modbus_areas area → P
no_area area none h =
    let test = ap (λ (a : Area). nat_le 1 (length (area_text a))) (sym h.2) ∙ all_at (λ a. nat_le 1 (length (area_text a))) modbus_areas h.0 area refl h.1 in
    absurd (let some = leb-true 1 (length (area_text area)) test in omega (arith, some, none))

-- none of the words begins with another
pub areas_apart : are_apart (map area_text modbus_areas) ≡ true
areas_apart = refl

pub types_clear : (kind : PlcType) → (colons (type_text kind) ≡ 0) × (brackets (type_text kind) ≡ 0)
types_clear types.Bool = (refl, refl)
types_clear types.Byte = (refl, refl)
types_clear types.Word = (refl, refl)
types_clear types.Dword = (refl, refl)
types_clear types.Lword = (refl, refl)
types_clear types.Sint = (refl, refl)
types_clear types.Usint = (refl, refl)
types_clear types.Int = (refl, refl)
types_clear types.Uint = (refl, refl)
types_clear types.Dint = (refl, refl)
types_clear types.Udint = (refl, refl)
types_clear types.Lint = (refl, refl)
types_clear types.Ulint = (refl, refl)
types_clear types.Real = (refl, refl)
types_clear types.Lreal = (refl, refl)

-- ---- the types that fit

-- the place of a type among them
abbrev pub place_of : PlcType → ℕ
place_of types.Bool = 0
place_of types.Byte = 0
place_of types.Word = 1
place_of types.Dword = 4
place_of types.Lword = 8
place_of types.Sint = 0
place_of types.Usint = 0
place_of types.Int = 2
place_of types.Uint = 3
place_of types.Dint = 5
place_of types.Udint = 6
place_of types.Lint = 9
place_of types.Ulint = 10
place_of types.Real = 7
place_of types.Lreal = 11

at_place : (kind : PlcType) → 0 < width_of kind → get_or types_by_width (place_of kind) kind ≡ kind
at_place types.Bool some = refl
at_place types.Byte some = absurd (omega arith)
at_place types.Word some = refl
at_place types.Dword some = refl
at_place types.Lword some = refl
at_place types.Sint some = absurd (omega arith)
at_place types.Usint some = absurd (omega arith)
at_place types.Int some = refl
at_place types.Uint some = refl
at_place types.Dint some = refl
at_place types.Udint some = refl
at_place types.Lint some = refl
at_place types.Ulint some = refl
at_place types.Real some = refl
at_place types.Lreal some = refl

-- how many types begin at a number
types_four : (number : ℕ) → number ≤ 65533 → types_at number ≡ 12
types_four number low = rw (le-leb number 65533 low) refl

types_two : (number : ℕ) → 65533 < number → number ≤ 65535 → types_at number ≡ 8
types_two number high low = rw (lt-leb number 65533 high) (rw (le-leb number 65535 low) refl)

types_one : (number : ℕ) → 65535 < number → types_at number ≡ 4
types_one number high = let past : 65533 < number = omega arith in rw (lt-leb number 65533 past) (rw (lt-leb number 65535 high) refl)

-- by how many registers are left
pub by_room : (P : ℕ → Type 0) (number : ℕ) → (number ≤ 65533 → P 12) → (65533 < number → number ≤ 65535 → P 8) → (65535 < number → P 4) → P (types_at number)
by_room P number four two one =
    elim (cases_lt 65533 number) [
      | inl high ↦
          elim (cases_lt 65535 number) [
            | inl higher ↦ subst P (sym (types_one number higher)) (one higher)
            | inr low ↦ subst P (sym (types_two number high low)) (two high low)
          ]
      | inr low ↦ subst P (sym (types_four number low)) (four low)
    ]

abbrev pub AreApart : ℕ → Type 0
AreApart n = are_apart (map type_text (take n types_by_width)) ≡ true

pub types_apart : (area : Area) (number : ℕ) → are_apart (map type_text (types_for area number)) ≡ true
types_apart Coil number = refl
types_apart DiscreteInput number = refl
types_apart InputRegister number = by_room AreApart number (λ _. refl) (λ _ _. refl) (λ _. refl)
types_apart HoldingRegister number = by_room AreApart number (λ _. refl) (λ _ _. refl) (λ _. refl)
types_apart S7Input number = refl
types_apart S7Output number = refl
types_apart S7Flag number = refl
types_apart S7Block number = refl

-- a type among the first of the table takes at most so many registers
first_types : (n w : ℕ) (kind : PlcType) → list_all (λ k. nat_le 1 (width_of k) && nat_le (width_of k) w) (take n types_by_width) ≡ true → Contains (take n types_by_width) kind → (1 ≤ width_of kind) × (width_of kind ≤ w)
first_types n w kind test h =
    let tests = and_parts (nat_le 1 (width_of kind)) (nat_le (width_of kind) w)
    (ap (λ (k : PlcType). nat_le 1 (width_of k) && nat_le (width_of k) w) (sym h.2) ∙ all_at (λ k. nat_le 1 (width_of k) && nat_le (width_of k) w) (take n types_by_width) h.0 kind test h.1) in
    (leb-true 1 (width_of kind) tests.0, leb-true (width_of kind) w tests.1)

only_one : (x y : PlcType) → Contains (x ∷ []) y → y ≡ x
only_one x y (zero, inside, h) = sym h
only_one x y (suc k, inside, h) = absurd (omega (arith, inside))

flag_fits : (number : ℕ) (kind : PlcType) → number ≤ 65536 → kind ≡ types.Bool → number + width_of kind * 1 ≤ 65537
flag_fits number kind high is = let one = ap width_of is in omega (arith, one)

register_fits : (number : ℕ) (kind : PlcType) → number ≤ 65536 → Contains (take (types_at number) types_by_width) kind → (1 ≤ width_of kind) × (number + width_of kind * 1 ≤ 65537)
register_fits number kind high =
    by_room (λ n. Contains (take n types_by_width) kind → (1 ≤ width_of kind) × (number + width_of kind * 1 ≤ 65537)) number
    (λ low h. let w = first_types 12 4 kind refl h in (w.0, omega (arith, w.1)))
    (λ _ low h. let w = first_types 8 2 kind refl h in (w.0, omega (arith, w.1)))
    (λ _ h. let w = first_types 4 1 kind refl h in (w.0, omega (arith, w.1)))

pub types_fit : (area : Area) (number : ℕ) (kind : PlcType) → number ≤ 65536 → Contains (types_for area number) kind → Fits area number kind 1
types_fit Coil number kind high h = let is = only_one types.Bool kind h in record { holds = is; some = omega arith; most = omega arith; ends = flag_fits number kind high is }
types_fit DiscreteInput number kind high h = let is = only_one types.Bool kind h in record { holds = is; some = omega arith; most = omega arith; ends = flag_fits number kind high is }
types_fit InputRegister number kind high h = let w = register_fits number kind high h in record { holds = (w.0, λ _. refl); some = omega arith; most = omega arith; ends = w.1 }
types_fit HoldingRegister number kind high h = let w = register_fits number kind high h in record { holds = (w.0, λ _. refl); some = omega arith; most = omega arith; ends = w.1 }
types_fit S7Input number kind high h = absurd (omega (arith, h.1))
types_fit S7Output number kind high h = absurd (omega (arith, h.1))
types_fit S7Flag number kind high h = absurd (omega (arith, h.1))
types_fit S7Block number kind high h = absurd (omega (arith, h.1))

-- ---- and the other way round

place_four : (kind : PlcType) → place_of kind < 12
place_four types.Bool = omega arith
place_four types.Byte = omega arith
place_four types.Word = omega arith
place_four types.Dword = omega arith
place_four types.Lword = omega arith
place_four types.Sint = omega arith
place_four types.Usint = omega arith
place_four types.Int = omega arith
place_four types.Uint = omega arith
place_four types.Dint = omega arith
place_four types.Udint = omega arith
place_four types.Lint = omega arith
place_four types.Ulint = omega arith
place_four types.Real = omega arith
place_four types.Lreal = omega arith

place_two : (kind : PlcType) → width_of kind ≤ 3 → place_of kind < 8
place_two types.Bool w = omega arith
place_two types.Byte w = omega arith
place_two types.Word w = omega arith
place_two types.Dword w = omega arith
place_two types.Lword w = absurd (omega arith)
place_two types.Sint w = omega arith
place_two types.Usint w = omega arith
place_two types.Int w = omega arith
place_two types.Uint w = omega arith
place_two types.Dint w = omega arith
place_two types.Udint w = omega arith
place_two types.Lint w = absurd (omega arith)
place_two types.Ulint w = absurd (omega arith)
place_two types.Real w = omega arith
place_two types.Lreal w = absurd (omega arith)

place_one : (kind : PlcType) → width_of kind ≤ 1 → place_of kind < 4
place_one types.Bool w = omega arith
place_one types.Byte w = omega arith
place_one types.Word w = omega arith
place_one types.Dword w = absurd (omega arith)
place_one types.Lword w = absurd (omega arith)
place_one types.Sint w = omega arith
place_one types.Usint w = omega arith
place_one types.Int w = omega arith
place_one types.Uint w = omega arith
place_one types.Dint w = absurd (omega arith)
place_one types.Udint w = absurd (omega arith)
place_one types.Lint w = absurd (omega arith)
place_one types.Ulint w = absurd (omega arith)
place_one types.Real w = absurd (omega arith)
place_one types.Lreal w = absurd (omega arith)

among : (n : ℕ) (kind : PlcType) → n ≤ 12 → 0 < width_of kind → place_of kind < n → Contains (take n types_by_width) kind
among n kind few some before =
    let long = length-take-le n types_by_width few in
    (place_of kind, omega (arith, long), get_or-take n types_by_width (place_of kind) kind before ∙ at_place kind some)

register_types : (number : ℕ) (kind : PlcType) → 0 < width_of kind → number + width_of kind * 1 ≤ 65537 → Contains (take (types_at number) types_by_width) kind
register_types number kind some ends =
    by_room (λ n. Contains (take n types_by_width) kind) number
    (λ _. among 12 kind (omega arith) some (place_four kind))
    (λ high _. among 8 kind (omega arith) some (place_two kind (omega arith)))
    (λ high. among 4 kind (omega arith) some (place_one kind (omega arith)))

flag_type : (kind : PlcType) → kind ≡ types.Bool → Contains (types.Bool ∷ []) kind
flag_type kind is = (0, omega arith, sym is)

pub fitting : (area : Area) (number : ℕ) (kind : PlcType) → Fits area number kind 1 → Contains (types_for area number) kind
fitting Coil number kind h = flag_type kind h.holds
fitting DiscreteInput number kind h = flag_type kind h.holds
fitting InputRegister number kind h = register_types number kind h.holds.0 h.ends
fitting HoldingRegister number kind h = register_types number kind h.holds.0 h.ends
fitting S7Input number kind h = absurd h.holds
fitting S7Output number kind h = absurd h.holds
fitting S7Flag number kind h = absurd h.holds
fitting S7Block number kind h = absurd h.holds

-- fewer values fit too
holds_one : (area : Area) (kind : PlcType) (count : ℕ) → Holds area kind count → Holds area kind 1
holds_one Coil kind count h = h
holds_one DiscreteInput kind count h = h
holds_one InputRegister kind count h = (h.0, λ _. refl)
holds_one HoldingRegister kind count h = (h.0, λ _. refl)
holds_one S7Input kind count h = h
holds_one S7Output kind count h = h
holds_one S7Flag kind count h = h
holds_one S7Block kind count h = h

pub one_fits : (area : Area) (number : ℕ) (kind : PlcType) (count : ℕ) → Fits area number kind count → Fits area number kind 1
one_fits area number kind count h =
    let less = mul-le-mul_left (width_of kind) h.some in
    record { holds = holds_one area kind count h.holds; some = omega arith; most = omega arith; ends = omega (arith, less, h.ends) }

-- a flag fits everywhere
pub flag : (area : Area) (number : ℕ) → Contains modbus_areas area → number ≤ 65536 → Fits area number types.Bool 1
flag Coil number h high = record { holds = refl; some = omega arith; most = omega arith; ends = omega arith }
flag DiscreteInput number h high = record { holds = refl; some = omega arith; most = omega arith; ends = omega arith }
flag InputRegister number h high = record { holds = (omega arith, λ _. refl); some = omega arith; most = omega arith; ends = omega arith }
flag HoldingRegister number h high = record { holds = (omega arith, λ _. refl); some = omega arith; most = omega arith; ends = omega arith }
flag S7Input number h high = no_area S7Input refl h
flag S7Output number h high = no_area S7Output refl h
flag S7Flag number h high = no_area S7Flag refl h
flag S7Block number h high = no_area S7Block refl h

-- ---- areas

pub area_among : (area : Area) (kind : PlcType) (count : ℕ) → Holds area kind count → Contains modbus_areas area
area_among Coil kind count h = (0, omega arith, refl)
area_among DiscreteInput kind count h = (1, omega arith, refl)
area_among InputRegister kind count h = (2, omega arith, refl)
area_among HoldingRegister kind count h = (3, omega arith, refl)
area_among S7Input kind count h = absurd h
area_among S7Output kind count h = absurd h
area_among S7Flag kind count h = absurd h
area_among S7Block kind count h = absurd h

-- a colon ends each word, and stands nowhere else in it
before_colon : (name front rest : List ℕ) → colons name ≡ 0 → name ++ (58 ∷ []) ≡ front ++ rest → (rest ≡ [] → ⊥) → colons front ≡ 0
before_colon name front rest clear e more =
    elim (are_cut name (58 ∷ []) front rest e) [
      | inl h ↦ (let long = ap colons h.1 ∙ colons-append front h.0 in omega (arith, long, clear))
      | inr h ↦ by_end name front rest h.0 clear more h.1 h.2
    ]
  where
    by_end : (name front rest r : List ℕ) → colons name ≡ 0 → (rest ≡ [] → ⊥) → front ≡ name ++ r → 58 ∷ [] ≡ r ++ rest → colons front ≡ 0
    by_end name front rest [] clear more e f = ap colons (e ∙ append-nil name) ∙ clear
    by_end name front rest (c ∷ []) clear more e f = absurd (more (cc))
    by_end name front rest (c ∷ d ∷ r) clear more e f = cc

no_front : (front rest : List ℕ) → front ++ rest ≡ [] → colons front ≡ 0
no_front [] rest e = refl
no_front (c ∷ front) rest e = cc

pub area_front : (area : Area) (front rest : List ℕ) → front ++ rest ≡ area_text area → (rest ≡ [] → ⊥) → colons front ≡ 0
area_front Coil front rest e more = before_colon (codes "coil") front rest refl (sym e) more
area_front DiscreteInput front rest e more = before_colon (codes "discrete-input") front rest refl (sym e) more
area_front InputRegister front rest e more = before_colon (codes "input-register") front rest refl (sym e) more
area_front HoldingRegister front rest e more = before_colon (codes "holding-register") front rest refl (sym e) more
area_front S7Input front rest e more = no_front front rest e
area_front S7Output front rest e more = no_front front rest e
area_front S7Flag front rest e more = no_front front rest e
area_front S7Block front rest e more = no_front front rest e

pub area_clear : (area : Area) → Contains modbus_areas area → (colons (area_text area) ≡ 1) × (brackets (area_text area) ≡ 0)
area_clear Coil h = (refl, refl)
area_clear DiscreteInput h = (refl, refl)
area_clear InputRegister h = (refl, refl)
area_clear HoldingRegister h = (refl, refl)
area_clear S7Input h = no_area S7Input refl h
area_clear S7Output h = no_area S7Output refl h
area_clear S7Flag h = no_area S7Flag refl h
area_clear S7Block h = no_area S7Block refl h
