-- A text has one fault, and a tag names one item.
use Rattle.std.proofs.Common.{◌≡◌, ℕ, ◌+◌, ◌<◌, ◌≤◌, List, [], ◌∷◌, ◌++◌, length, take, drop, refl, sym, ap, ◌∙◌, subst, inl, inr, arith, decimal}
use Rattle.std.proofs.lemmas.Bool.{cases_lt, cases_order}
use Rattle.std.proofs.lemmas.Fmt.{decimal_injective}
use Rattle.std.proofs.lemmas.List.{append_assoc, append_cancel_left, append_cancel_right, take-append-drop, take-take}
use Rattle.wire_frames.specs.declared.kinds.Area.{Area}
use Rattle.wire_frames.specs.declared.kinds.Item.{Item}
use Rattle.wire_frames.specs.declared.kinds.PlcType.{PlcType}
use Rattle.tag_address.specs.declared.tags.TagKind.{TagKind}
use Rattle.tag_address.specs.declared.tags.TagKind.TheVariants as kinds
use Rattle.tag_address.specs.declared.tags.TagWhy.{TagWhy}
use Rattle.tag_address.specs.declared.tags.TagWhy.TheVariants as whys
use Rattle.tag_address.specs.Places.{Begins, IsRefusedAt}
use Rattle.tag_address.specs.Parts.{Fits, GoesOn, IsNotLed, IsWord, modbus_areas, types_for}
use Rattle.tag_address.specs.Tags.{IsCount, IsModbusTag, IsPart, IsRefused, IsTag, area_text, colons, type_text}
use Rattle.tag_address.proofs.Languages.{colons-append}
use Rattle.tag_address.proofs.NumberLaws.{IsDigit, digits_clear, only_number}
use Rattle.tag_address.proofs.StageLaws.{item_fits}
use Rattle.tag_address.proofs.TableLaws.{area_among, area_clear, areas_apart, fitting, one_fits, types_apart, types_clear}
use Rattle.tag_address.proofs.TagLaws.{start_below}
use Rattle.tag_address.proofs.WordLaws.{one_word}

-- ---- one place

begins_front : {A : Type 0} (L : List ℕ → A → Type 0) (text : List ℕ) (p q : ℕ) → p ≤ q → Begins L (take q text) → Begins L (take p text)
begins_front {A} L text p q low h =
    let cut : take q text ≡ take p text ++ drop p (take q text) = sym (take-append-drop p (take q text)) ∙ ap (λ (x : List ℕ). x ++ drop p (take q text)) (take-take p q text low) in
    let whole : take q text ++ h.0 ≡ take p text ++ (drop p (take q text) ++ h.0) = ap (λ (x : List ℕ). x ++ h.0) cut ∙ append_assoc (take p text) (drop p (take q text)) h.0 in
    (drop p (take q text) ++ h.0, h.1, subst (λ (x : List ℕ). L x h.1) whole h.2)

not_before : {A : Type 0} (L : List ℕ → A → Type 0) (text : List ℕ) (p q : ℕ) → IsRefusedAt L text p → IsRefusedAt L text q → p < q → ⊥
not_before L text p q one two order =
    one.next (omega (arith, two.within)) (begins_front L text (p + 1) q (omega arith) (two.front (omega arith)))

pub one_place : {A : Type 0} (L : List ℕ → A → Type 0) (text : List ℕ) (p q : ℕ) → IsRefusedAt L text p → IsRefusedAt L text q → p ≡ q
one_place L text p q one two =
    elim (cases_order p q) [
      | inl same ↦ same
      | inr order ↦
          elim order [
            | inl below ↦ absurd (not_before L text p q one two below)
            | inr above ↦ absurd (not_before L text q p two one above)
          ]
    ]

-- ---- one part

one_part : {A : Type 0} (L : List ℕ → A → Type 0) (front : List ℕ) (two : (value : A) → L front value → colons front ≡ 2) (why other : TagWhy) → IsPart L 0 0 front why → IsPart L 0 0 front other → why ≡ other
one_part L front two whys.Area whys.Area h k = refl
one_part L front two whys.Area whys.Number h k = absurd (omega (arith, h, k))
one_part L front two whys.Area whys.Bit h k = absurd k
one_part L front two whys.Area whys.Type h k = absurd (omega (arith, h, k.0))
one_part L front two whys.Area whys.Size h k = absurd k
one_part L front two whys.Area whys.Count h k = absurd (omega (arith, h, k.0))
one_part L front two whys.Area whys.End h k = absurd (let two = two k.0 k.1 in omega (arith, two, h))
one_part L front two whys.Number whys.Area h k = absurd (omega (arith, h, k))
one_part L front two whys.Number whys.Number h k = refl
one_part L front two whys.Number whys.Bit h k = absurd k
one_part L front two whys.Number whys.Type h k = absurd (omega (arith, h, k.0))
one_part L front two whys.Number whys.Size h k = absurd k
one_part L front two whys.Number whys.Count h k = absurd (omega (arith, h, k.0))
one_part L front two whys.Number whys.End h k = absurd (let two = two k.0 k.1 in omega (arith, two, h))
one_part L front two whys.Bit whys.Area h k = absurd h
one_part L front two whys.Bit whys.Number h k = absurd h
one_part L front two whys.Bit whys.Bit h k = absurd h
one_part L front two whys.Bit whys.Type h k = absurd h
one_part L front two whys.Bit whys.Size h k = absurd h
one_part L front two whys.Bit whys.Count h k = absurd h
one_part L front two whys.Bit whys.End h k = absurd h
one_part L front two whys.Type whys.Area h k = absurd (omega (arith, h.0, k))
one_part L front two whys.Type whys.Number h k = absurd (omega (arith, h.0, k))
one_part L front two whys.Type whys.Bit h k = absurd k
one_part L front two whys.Type whys.Type h k = refl
one_part L front two whys.Type whys.Size h k = absurd k
one_part L front two whys.Type whys.Count h k = absurd (omega (arith, h.1, k.1))
one_part L front two whys.Type whys.End h k = absurd (h.2 k.0 k.1)
one_part L front two whys.Size whys.Area h k = absurd h
one_part L front two whys.Size whys.Number h k = absurd h
one_part L front two whys.Size whys.Bit h k = absurd h
one_part L front two whys.Size whys.Type h k = absurd h
one_part L front two whys.Size whys.Size h k = absurd h
one_part L front two whys.Size whys.Count h k = absurd h
one_part L front two whys.Size whys.End h k = absurd h
one_part L front two whys.Count whys.Area h k = absurd (omega (arith, h.0, k))
one_part L front two whys.Count whys.Number h k = absurd (omega (arith, h.0, k))
one_part L front two whys.Count whys.Bit h k = absurd k
one_part L front two whys.Count whys.Type h k = absurd (omega (arith, h.1, k.1))
one_part L front two whys.Count whys.Size h k = absurd k
one_part L front two whys.Count whys.Count h k = refl
one_part L front two whys.Count whys.End h k = absurd (h.2 k.0 k.1)
one_part L front two whys.End whys.Area h k = absurd (let two = two h.0 h.1 in omega (arith, two, k))
one_part L front two whys.End whys.Number h k = absurd (let two = two h.0 h.1 in omega (arith, two, k))
one_part L front two whys.End whys.Bit h k = absurd k
one_part L front two whys.End whys.Type h k = absurd (k.2 h.0 h.1)
one_part L front two whys.End whys.Size h k = absurd k
one_part L front two whys.End whys.Count h k = absurd (k.2 h.0 h.1)
one_part L front two whys.End whys.End h k = refl

count_clear : (count : ℕ) (text : List ℕ) → count ≤ 65535 → IsCount count text → colons text ≡ 0
count_clear count text most (inl e) =
    let clear = digits_clear count (omega arith) in
    let cut = colons-append (91 ∷ []) (decimal count ++ (93 ∷ [])) in
    let inner = colons-append (decimal count) (93 ∷ []) in
    let is = ap colons e in
    omega (arith, clear.0, cut, inner, is)
count_clear count text most (inr h) = ap colons h.1

-- a tag has two colons
tag_colons : (text : List ℕ) (item : Item) → IsModbusTag text item → colons text ≡ 2
tag_colons text item h =
    let start = start_below item h.item_is in
    let area = area_clear item.area (area_among item.area item.kind item.count h.item_is.holds) in
    let number = digits_clear (item.start + 1) (omega (arith, start)) in
    let kind = types_clear item.kind in
    let count = count_clear item.count h.count h.item_is.most h.count_is in
    let one = colons-append (area_text item.area) (decimal (item.start + 1) ++ (58 ∷ (type_text item.kind ++ h.count))) in
    let two = colons-append (decimal (item.start + 1)) (58 ∷ (type_text item.kind ++ h.count)) in
    let three = colons-append (58 ∷ []) (type_text item.kind ++ h.count) in
    let four = colons-append (type_text item.kind) h.count in
    let is = ap colons h.text_is in
    omega (arith, area.0, number.0, kind.0, count, one, two, three, four, is)

two_colons : (kind : TagKind) (text : List ℕ) (item : Item) → IsTag kind text item → colons text ≡ 2
two_colons kinds.Modbus text item h = tag_colons text item h
two_colons kinds.S7 text item h = absurd h

same_why : (kind : TagKind) (text : List ℕ) (place other : ℕ) (why because : TagWhy) → place ≡ other → IsRefused kind text place why → IsRefused kind text other because → why ≡ because
same_why kind text place other why because same one two =
    elim (cases_lt place (length text)) [
      | inl inside ↦
          let there : other < length text = omega arith in
          one_part (IsTag kind) (take place text) (two_colons kind (take place text)) why because (one.part inside)
          (subst (λ (p : ℕ). IsPart (IsTag kind) 0 0 (take p text) because) (sym same) (two.part there))
      | inr past ↦
          let whole : place ≡ length text = omega (arith, one.at.within) in
          let there : other ≡ length text = omega arith in
          one.early whole ∙ sym (two.early there)
    ]

pub one_refusal : (kind : TagKind) (text : List ℕ) (place other : ℕ) (why because : TagWhy) → IsRefused kind text place why → IsRefused kind text other because → (place ≡ other) × (why ≡ because)
one_refusal kind text place other why because one two =
    let same = one_place (IsTag kind) text place other one.at two.at in
    (same, same_why kind text place other why because same one two)

-- ---- one item

same_item : (i o : Item) → i.area ≡ o.area → i.block ≡ o.block → i.start ≡ o.start → i.bit ≡ o.bit → i.kind ≡ o.kind → i.count ≡ o.count → i ≡ o
same_item i o area block start bit kind count =
    let make : Area → ℕ → ℕ → ℕ → PlcType → ℕ → Item = λ a b s t k c. record { area = a; block = b; start = s; bit = t; kind = k; count = c } in
    ap (λ (a : Area). make a i.block i.start i.bit i.kind i.count) area
    ∙ ap (λ (b : ℕ). make o.area b i.start i.bit i.kind i.count) block
    ∙ ap (λ (s : ℕ). make o.area o.block s i.bit i.kind i.count) start
    ∙ ap (λ (t : ℕ). make o.area o.block o.start t i.kind i.count) bit
    ∙ ap (λ (k : PlcType). make o.area o.block o.start o.bit k i.count) kind
    ∙ ap (λ (c : ℕ). make o.area o.block o.start o.bit o.kind c) count

one_count : (c d : ℕ) (text : List ℕ) → c ≤ 65535 → d ≤ 65535 → IsCount c text → IsCount d text → c ≡ d
one_count c d text low high (inl e) (inl f) =
    let both : 91 ∷ (decimal c ++ (93 ∷ [])) ≡ 91 ∷ (decimal d ++ (93 ∷ [])) = sym e ∙ f in
    let inner : decimal c ++ (93 ∷ []) ≡ decimal d ++ (93 ∷ []) = cc in
    decimal_injective c d (omega arith) (omega arith) (append_cancel_right (decimal c) (decimal d) (93 ∷ []) inner)
one_count c d text low high (inl e) (inr f) = (let both : 91 ∷ (decimal c ++ (93 ∷ [])) ≡ [] = sym e ∙ f.1 in cc)
one_count c d text low high (inr e) (inl f) = (let both : 91 ∷ (decimal d ++ (93 ∷ [])) ≡ [] = sym f ∙ e.1 in cc)
one_count c d text low high (inr e) (inr f) = e.0 ∙ sym f.0

colon_led : (y : List ℕ) (b : ℕ) (r : List ℕ) → 58 ∷ y ≡ b ∷ r → b ≡ 58
colon_led y b r e = cc

-- one number stands before a colon
one_number : (n m : ℕ) (y z : List ℕ) → n ≤ 65536 → m ≤ 65536 → decimal n ++ (58 ∷ z) ≡ decimal m ++ (58 ∷ y) → m ≡ n
one_number n m y z low high e =
    let K : ℕ → List ℕ → ℕ → Type 0 = λ _ t _. IsNotLed IsDigit t in
    let not : (t : List ℕ) → IsNotLed IsDigit (58 ∷ t) = λ t b r is digit. let same = colon_led t b r is in omega (arith, digit, same) in
    let ends : IsNotLed (GoesOn n 65536) (58 ∷ z) = λ b r is go. let same = colon_led z b r is in omega (arith, go.2, same) in
    (only_number K 0 65536 (decimal n) n (omega arith) (refl, omega arith, low) (λ k t v h. h) (decimal m) (58 ∷ y) (58 ∷ z) m 0 (refl, omega arith, high) (not y) ends e).1

one_type : (area : Area) (number : ℕ) (k l : PlcType) (y z : List ℕ) → Fits area number k 1 → Fits area number l 1 → type_text k ++ z ≡ type_text l ++ y → l ≡ k
one_type area number k l y z h g e =
    (one_word type_text (types_for area number) (type_text k) (type_text l) y z k l (types_apart area number) (fitting area number k h, refl) (fitting area number l g, refl) e).1

one_area : (a b : Area) (y z : List ℕ) (h : IsWord area_text modbus_areas (area_text a) a) (g : IsWord area_text modbus_areas (area_text b) b) → area_text a ++ z ≡ area_text b ++ y → b ≡ a
one_area a b y z h g e = (one_word area_text modbus_areas (area_text a) (area_text b) y z a b areas_apart h g e).1

one_modbus : (text : List ℕ) (i o : Item) → IsModbusTag text i → IsModbusTag text o → i ≡ o
one_modbus text i o h g =
    let istart = start_below i h.item_is in
    let ostart = start_below o g.item_is in
    let ityped : List ℕ = type_text i.kind ++ h.count in
    let otyped : List ℕ = type_text o.kind ++ g.count in
    let inumbered : List ℕ = decimal (i.start + 1) ++ (58 ∷ ityped) in
    let onumbered : List ℕ = decimal (o.start + 1) ++ (58 ∷ otyped) in
    let both : area_text i.area ++ inumbered ≡ area_text o.area ++ onumbered = sym h.text_is ∙ g.text_is in
    let area : o.area ≡ i.area = one_area i.area o.area onumbered inumbered
    (area_among i.area i.kind i.count h.item_is.holds, refl) (area_among o.area o.kind o.count g.item_is.holds, refl) both in
    let numbered : inumbered ≡ onumbered = append_cancel_left (area_text i.area) inumbered onumbered (both ∙ ap (λ (a : Area). area_text a ++ onumbered) area) in
    let number : o.start + 1 ≡ i.start + 1 = one_number (i.start + 1) (o.start + 1) otyped ityped (omega (arith, istart)) (omega (arith, ostart)) numbered in
    let coloned : 58 ∷ ityped ≡ 58 ∷ otyped = append_cancel_left (decimal (i.start + 1)) (58 ∷ ityped) (58 ∷ otyped) (numbered ∙ ap (λ (n : ℕ). decimal n ++ (58 ∷ otyped)) number) in
    let typed : ityped ≡ otyped = cc in
    let ifits = one_fits i.area (i.start + 1) i.kind i.count (item_fits i h.item_is) in
    let ofits = one_fits o.area (o.start + 1) o.kind o.count (item_fits o g.item_is) in
    let moved : Fits i.area (i.start + 1) o.kind 1 = subst (λ (n : ℕ). Fits i.area n o.kind 1) number (subst (λ (a : Area). Fits a (o.start + 1) o.kind 1) area ofits) in
    let kind : o.kind ≡ i.kind = one_type i.area (i.start + 1) i.kind o.kind g.count h.count ifits moved typed in
    let tails : h.count ≡ g.count = append_cancel_left (type_text i.kind) h.count g.count (typed ∙ ap (λ (k : PlcType). type_text k ++ g.count) kind) in
    let count : i.count ≡ o.count = one_count i.count o.count h.count h.item_is.most g.item_is.most h.count_is (subst (IsCount o.count) (sym tails) g.count_is) in
    same_item i o (sym area) (h.item_is.block ∙ sym g.item_is.block) (omega (arith, number)) (h.item_is.bit ∙ sym g.item_is.bit) (sym kind) count

pub one_item : (kind : TagKind) (text : List ℕ) (item other : Item) → IsTag kind text item → IsTag kind text other → item ≡ other
one_item kinds.Modbus text item other h g = one_modbus text item other h g
one_item kinds.S7 text item other h g = absurd h
