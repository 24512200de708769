-- What a reading of `PlcData` looks like, by its entries.
use Rattle.std.proofs.Common.{◌≡◌, ◌≢◌, ◌⊎◌, ℕ, ℤ, pos, ◌-◌, ◌*◌, ◌/◌, ◌<◌, ◌≤◌, Result, Ok, Err, IfOk, get_or, Bool, true, false, List, [], ◌∷◌, length, map, refl, sym, ap, ◌∙◌, subst, inl, inr, arith, rules}
use Rattle.std.specs.List.{All}
use Rattle.std.proofs.Math.Nat.{le-div_iff_mul-le}
use Rattle.std.proofs.lemmas.List.Elements.{All-cons, All-head, All-nil, All-weaker}
use Rattle.node_tree.specs.declared.nodes.Node.{Node, out-Node, out-roll-Node}
use Rattle.node_tree.specs.declared.nodes.Node.TheOpen.{Node-F}
use Rattle.node_tree.specs.declared.nodes.Node.TheOpen as layer
use Rattle.node_tree.specs.declared.nodes.Node.TheVariants as nodes
use Rattle.wire_frames.specs.declared.kinds.PlcType.{PlcType}
use Rattle.wire_frames.specs.declared.kinds.PlcType.TheVariants as types
use Rattle.wire_frames.specs.declared.kinds.PlcValue.{PlcValue}
use Rattle.wire_frames.specs.declared.kinds.PlcValue.TheVariants as values
use Rattle.data_io.specs.Data.{AreData, IsKindOf, IsOf, IsWhole, float_bits, IsReading, IsReserved, bytes_of, case_of, data_node, entries_of, value_node}

-- ---- nodes that are the same

out-Group : (c : ℕ) (xs : List Node) → out-Node (nodes.Group c xs) ≡ layer.Group c xs
out-Group c xs = ap out-Node (sym (nodes.rolls-Group c xs)) ∙ out-roll-Node (layer.Group c xs)

out-List : (xs : List Node) → out-Node (nodes.List xs) ≡ layer.List xs
out-List xs = ap out-Node (sym (nodes.rolls-List xs)) ∙ out-roll-Node (layer.List xs)

pub same_group : (c d : ℕ) (xs ys : List Node) → nodes.Group c xs ≡ nodes.Group d ys → (c ≡ d) × (xs ≡ ys)
same_group c d xs ys e =
    let opened : ◌≡◌ {A = Node-F Node} (layer.Group c xs) (layer.Group d ys) = sym (out-Group c xs) ∙ ap out-Node e ∙ out-Group d ys in
    (cc, cc)

pub same_list : (xs ys : List Node) → nodes.List xs ≡ nodes.List ys → xs ≡ ys
same_list xs ys e =
    let opened : ◌≡◌ {A = Node-F Node} (layer.List xs) (layer.List ys) = sym (out-List xs) ∙ ap out-Node e ∙ out-List ys in cc

-- ---- flags, and the other types

-- a type whose case is a list
pub record IsListed (kind : PlcType) : Type 0 where
  pub other : kind ≢ types.Bool
  pub entries : (reserved : ℤ) (all : List Node) → entries_of reserved kind all ≡ nodes.List all ∷ []
  pub case : (registers : Bool) → case_of registers kind ≡ case_of false kind

pub flag_or_list : (kind : PlcType) → (kind ≡ types.Bool) ⊎ IsListed kind
flag_or_list types.Bool = inl refl
flag_or_list types.Byte = inr (record { other = λ e. cc; entries = λ r all. refl; case = λ r. refl })
flag_or_list types.Word = inr (record { other = λ e. cc; entries = λ r all. refl; case = λ r. refl })
flag_or_list types.Dword = inr (record { other = λ e. cc; entries = λ r all. refl; case = λ r. refl })
flag_or_list types.Lword = inr (record { other = λ e. cc; entries = λ r all. refl; case = λ r. refl })
flag_or_list types.Sint = inr (record { other = λ e. cc; entries = λ r all. refl; case = λ r. refl })
flag_or_list types.Usint = inr (record { other = λ e. cc; entries = λ r all. refl; case = λ r. refl })
flag_or_list types.Int = inr (record { other = λ e. cc; entries = λ r all. refl; case = λ r. refl })
flag_or_list types.Uint = inr (record { other = λ e. cc; entries = λ r all. refl; case = λ r. refl })
flag_or_list types.Dint = inr (record { other = λ e. cc; entries = λ r all. refl; case = λ r. refl })
flag_or_list types.Udint = inr (record { other = λ e. cc; entries = λ r all. refl; case = λ r. refl })
flag_or_list types.Lint = inr (record { other = λ e. cc; entries = λ r all. refl; case = λ r. refl })
flag_or_list types.Ulint = inr (record { other = λ e. cc; entries = λ r all. refl; case = λ r. refl })
flag_or_list types.Real = inr (record { other = λ e. cc; entries = λ r all. refl; case = λ r. refl })
flag_or_list types.Lreal = inr (record { other = λ e. cc; entries = λ r all. refl; case = λ r. refl })

-- the one value of a flag
flag_value : (value : PlcValue) → IsOf types.Bool value → (flag : Bool) × (value ≡ values.Bool flag)
flag_value (values.Bool flag) h = (flag, refl)
flag_value (values.Whole n) h = absurd h
flag_value (values.Raw bits width) h = absurd (omega (arith, h.0))

pub one_flag : (list : List PlcValue) → AreData types.Bool list → (flag : Bool) × (list ≡ values.Bool flag ∷ [])
one_flag [] h = absurd (let long = h.flag refl in omega (arith, long))
one_flag (v ∷ []) h =
    let flag = flag_value v (All-head (IsOf types.Bool) v [] h.each) in
    (flag.0, ap (λ (w : PlcValue). w ∷ []) flag.1)
one_flag (v ∷ w ∷ list) h = absurd (let long = h.flag refl in omega (arith, long))

-- ---- readings by their entries

-- a group that is a reading, with the type's own case and entries
pub record IsFlagCase (case : ℕ) (entries : List Node) (list : List PlcValue) : Type 0 where
  pub registers : Bool
  pub reserved : ℤ
  pub flag : Bool
  pub case_is : case ≡ case_of registers types.Bool
  pub reserved_is : IsReserved registers reserved
  pub entries_are : entries ≡ nodes.Num reserved ∷ nodes.Flag flag ∷ []
  pub list_is : list ≡ values.Bool flag ∷ []

pub record IsListCase (case : ℕ) (entries : List Node) (list : List PlcValue) : Type 0 where
  pub kind : PlcType
  pub other : kind ≢ types.Bool
  pub case_is : case ≡ case_of false kind
  pub data_are : AreData kind list
  pub entries_are : entries ≡ nodes.List (map value_node list) ∷ []

flag_case : (case : ℕ) (entries : List Node) (list : List PlcValue) (h : IsReading (nodes.Group case entries) list) → h.kind ≡ types.Bool → IsFlagCase case entries list
flag_case case entries list h is =
    let same = same_group case (case_of h.registers h.kind) entries (entries_of h.reserved h.kind (map value_node list)) h.node_is in
    let flag = one_flag list (subst (λ (k : PlcType). AreData k list) is h.data_are) in
    record {
      registers = h.registers;
      reserved = h.reserved;
      flag = flag.0;
      case_is = same.0 ∙ ap (case_of h.registers) is;
      reserved_is = h.reserved_is;
      entries_are = same.1 ∙ ap (λ (k : PlcType). entries_of h.reserved k (map value_node list)) is ∙ ap (λ (vs : List PlcValue). nodes.Num h.reserved ∷ map value_node vs) flag.1;
      list_is = flag.1;
    }

list_case : (case : ℕ) (entries : List Node) (list : List PlcValue) (h : IsReading (nodes.Group case entries) list) → IsListed h.kind → IsListCase case entries list
list_case case entries list h is =
    let same = same_group case (case_of h.registers h.kind) entries (entries_of h.reserved h.kind (map value_node list)) h.node_is in
    record {
      kind = h.kind;
      other = is.other;
      case_is = same.0 ∙ is.case h.registers;
      data_are = h.data_are;
      entries_are = same.1 ∙ is.entries h.reserved (map value_node list);
    }

pub reading_cases : (case : ℕ) (entries : List Node) (list : List PlcValue) → IsReading (nodes.Group case entries) list → IsFlagCase case entries list ⊎ IsListCase case entries list
reading_cases case entries list h =
    elim (flag_or_list h.kind) [
      | inl is ↦ inl (flag_case case entries list h is)
      | inr is ↦ inr (list_case case entries list h is)
    ]

-- a reading has one entry or two
pub some_entries : (case : ℕ) (entries : List Node) (list : List PlcValue) → IsReading (nodes.Group case entries) list → (length entries ≡ 1) ⊎ (length entries ≡ 2)
some_entries case entries list h =
    elim (reading_cases case entries list h) [
      | inl f ↦ inr (ap length f.entries_are)
      | inr l ↦ inl (ap length l.entries_are)
    ]

-- of one entry it is a list
pub one_entry : (case : ℕ) (entry : Node) (list : List PlcValue) → IsReading (nodes.Group case (entry ∷ [])) list → IsListCase case (entry ∷ []) list
one_entry case entry list h =
    elim (reading_cases case (entry ∷ []) list h) [
      | inl f ↦ (let long = ap length f.entries_are in absurd (omega (arith, long)))
      | inr l ↦ l
    ]

-- and of two a flag
pub two_entries : (case : ℕ) (first second : Node) (list : List PlcValue) → IsReading (nodes.Group case (first ∷ second ∷ [])) list → IsFlagCase case (first ∷ second ∷ []) list
two_entries case first second list h =
    elim (reading_cases case (first ∷ second ∷ []) list h) [
      | inl f ↦ f
      | inr l ↦ (let long = ap length l.entries_are in absurd (omega (arith, long)))
    ]

-- ---- and the other way round

pub flag_reading : (case : ℕ) (registers flag : Bool) (reserved : ℤ) → case_of registers types.Bool ≡ case → IsReserved registers reserved → IsReading (nodes.Group case (nodes.Num reserved ∷ nodes.Flag flag ∷ [])) (values.Bool flag ∷ [])
flag_reading case registers flag reserved e is = record {
  kind = types.Bool;
  registers = registers;
  reserved = reserved;
  data_are = record { each = All-cons (IsOf types.Bool) (values.Bool flag) [] refl (All-nil (IsOf types.Bool)); flag = λ _. refl; room = omega arith };
  reserved_is = is;
  node_is = ap (λ (c : ℕ). nodes.Group c (nodes.Num reserved ∷ nodes.Flag flag ∷ [])) (sym e);
}

pub list_reading : (case : ℕ) (kind : PlcType) (list : List PlcValue) → kind ≢ types.Bool → case_of false kind ≡ case → All (IsOf kind) list → length list * bytes_of kind ≤ 65535 → IsReading (nodes.Group case (nodes.List (map value_node list) ∷ [])) list
list_reading case kind list other e each room =
    elim (flag_or_list kind) [
      | inl is ↦ absurd (other is)
      | inr is ↦ record {
        kind = kind;
        registers = false;
        reserved = pos 0;
        data_are = record { each = each; flag = λ is. absurd (other is); room = room };
        reserved_is = (search rules, search rules);
        node_is = ap (λ (c : ℕ). nodes.Group c (nodes.List (map value_node list) ∷ [])) (sym e) ∙ ap (nodes.Group (case_of false kind)) (sym (is.entries (pos 0) (map value_node list)));
      }
    ]

-- ---- one list of values

same_value : (x y : PlcValue) → value_node x ≡ value_node y → x ≡ y
unfolding out-Node denote.Hole.Carrier.out
same_value (values.Bool a) (values.Bool b) e = (let opened : ◌≡◌ {A = Node-F Node} (layer.Flag a) (layer.Flag b) = ap out-Node e in cc)
same_value (values.Bool a) (values.Whole m) e = (let opened : ◌≡◌ {A = Node-F Node} (layer.Flag a) (layer.Num m) = ap out-Node e in cc)
same_value (values.Bool a) (values.Raw b w) e = (let opened : ◌≡◌ {A = Node-F Node} (layer.Flag a) (layer.Raw b w) = ap out-Node e in cc)
same_value (values.Whole n) (values.Bool b) e = (let opened : ◌≡◌ {A = Node-F Node} (layer.Num n) (layer.Flag b) = ap out-Node e in cc)
same_value (values.Whole n) (values.Whole m) e = (let opened : ◌≡◌ {A = Node-F Node} (layer.Num n) (layer.Num m) = ap out-Node e in cc)
same_value (values.Whole n) (values.Raw b w) e = (let opened : ◌≡◌ {A = Node-F Node} (layer.Num n) (layer.Raw b w) = ap out-Node e in cc)
same_value (values.Raw a v) (values.Bool b) e = (let opened : ◌≡◌ {A = Node-F Node} (layer.Raw a v) (layer.Flag b) = ap out-Node e in cc)
same_value (values.Raw a v) (values.Whole m) e = (let opened : ◌≡◌ {A = Node-F Node} (layer.Raw a v) (layer.Num m) = ap out-Node e in cc)
same_value (values.Raw a v) (values.Raw b w) e = (let opened : ◌≡◌ {A = Node-F Node} (layer.Raw a v) (layer.Raw b w) = ap out-Node e in cc)

pub same_values : (xs ys : List PlcValue) → map value_node xs ≡ map value_node ys → xs ≡ ys
same_values [] [] e = refl
same_values [] (y ∷ ys) e = cc
same_values (x ∷ xs) [] e = cc
same_values (x ∷ xs) (y ∷ ys) e =
    let head : value_node x ≡ value_node y = cc in
    let tail : map value_node xs ≡ map value_node ys = cc in
    let one : x ≡ y = same_value x y head in
    let more : xs ≡ ys = same_values xs ys tail in
    cc

-- ---- for the readers

pub then_ok : {T E : Type 0} (r : Result T E) (P Q : T → Type 0) → ((x : T) → P x → Q x) → IfOk r P → IfOk r Q
then_ok (Ok x) P Q to h = to x h
then_ok (Err e) P Q to h = h

pub same_entries : (a b x y : Node) → a ∷ b ∷ [] ≡ x ∷ y ∷ [] → (a ≡ x) × (b ≡ y)
same_entries a b x y e = (cc, cc)

pub same_entry : (a x : Node) → a ∷ [] ≡ x ∷ [] → a ≡ x
same_entry a x e = cc

-- the types whose cases are lists, in the order of the cases
abbrev listed : List PlcType
listed = types.Byte ∷ types.Word ∷ types.Dword ∷ types.Lword ∷ types.Sint ∷ types.Usint ∷ types.Int ∷ types.Uint ∷ types.Dint ∷ types.Udint ∷ types.Lint ∷ types.Ulint ∷ types.Real ∷ types.Lreal ∷ []

in_listed : (kind : PlcType) → kind ≢ types.Bool → get_or listed (case_of false kind - 3) types.Bool ≡ kind
in_listed types.Bool other = absurd (other refl)
in_listed types.Byte other = refl
in_listed types.Word other = refl
in_listed types.Dword other = refl
in_listed types.Lword other = refl
in_listed types.Sint other = refl
in_listed types.Usint other = refl
in_listed types.Int other = refl
in_listed types.Uint other = refl
in_listed types.Dint other = refl
in_listed types.Udint other = refl
in_listed types.Lint other = refl
in_listed types.Ulint other = refl
in_listed types.Real other = refl
in_listed types.Lreal other = refl

pub same_kind : (k l : PlcType) → k ≢ types.Bool → l ≢ types.Bool → case_of false k ≡ case_of false l → k ≡ l
same_kind k l one two e = sym (in_listed k one) ∙ ap (λ (c : ℕ). get_or listed (c - 3) types.Bool) e ∙ in_listed l two

pub some_bytes : (kind : PlcType) → kind ≢ types.Bool → 0 < bytes_of kind
some_bytes types.Bool other = absurd (other refl)
some_bytes types.Byte other = omega arith
some_bytes types.Word other = omega arith
some_bytes types.Dword other = omega arith
some_bytes types.Lword other = omega arith
some_bytes types.Sint other = omega arith
some_bytes types.Usint other = omega arith
some_bytes types.Int other = omega arith
some_bytes types.Uint other = omega arith
some_bytes types.Dint other = omega arith
some_bytes types.Udint other = omega arith
some_bytes types.Lint other = omega arith
some_bytes types.Ulint other = omega arith
some_bytes types.Real other = omega arith
some_bytes types.Lreal other = omega arith

-- a list of so many items as there is room for
pub has_room : (kind : PlcType) (count len bytes : ℕ) → kind ≢ types.Bool → bytes ≡ bytes_of kind → len ≡ count → len ≤ 65535 / bytes → count * bytes_of kind ≤ 65535
has_room kind count len bytes other is long low =
    (le-div_iff_mul-le (some_bytes kind other)).0 (subst (λ (n : ℕ). n ≤ 65535 / bytes_of kind) long (subst (λ (b : ℕ). len ≤ 65535 / b) is low))

pub no_room : (kind : PlcType) (count len bytes : ℕ) → kind ≢ types.Bool → bytes ≡ bytes_of kind → len ≡ count → 65535 / bytes < len → count * bytes_of kind ≤ 65535 → ⊥
no_room kind count len bytes other is long high room =
    let low = (le-div_iff_mul-le {k = bytes_of kind} {x = count} {y = 65535} (some_bytes kind other)).1 room in
    let over : 65535 / bytes_of kind < len = subst (λ (b : ℕ). 65535 / b < len) is high in
    omega (arith, low, over, long)

pub one_item : (xs : List Node) (x : Node) → length xs ≡ 1 → x ≡ get_or xs 0 x → xs ≡ x ∷ []
one_item [] x long is = absurd (omega arith)
one_item (y ∷ []) x long is = ap (λ (n : Node). n ∷ []) (sym is)
one_item (y ∷ z ∷ xs) x long is = absurd (omega arith)

pub two_items : (xs : List Node) (x y : Node) → length xs ≡ 2 → x ≡ get_or xs 0 x → y ≡ get_or xs 1 y → xs ≡ x ∷ y ∷ []
two_items [] x y long first second = absurd (omega arith)
two_items (a ∷ []) x y long first second = absurd (omega arith)
two_items (a ∷ b ∷ []) x y long first second = ap (λ (n : Node). n ∷ b ∷ []) (sym first) ∙ ap (λ (n : Node). x ∷ n ∷ []) (sym second)
two_items (a ∷ b ∷ c ∷ xs) x y long first second = absurd (omega arith)

-- ---- a node has one list of values

one_case : (case : ℕ) (entries : List Node) (xs ys : List PlcValue) → (IsFlagCase case entries xs ⊎ IsListCase case entries xs) → (IsFlagCase case entries ys ⊎ IsListCase case entries ys) → xs ≡ ys
one_case case entries xs ys (inl f) (inl g) =
    let both = same_entries (nodes.Num f.reserved) (nodes.Flag f.flag) (nodes.Num g.reserved) (nodes.Flag g.flag) (sym f.entries_are ∙ g.entries_are) in
    f.list_is ∙ same_values (values.Bool f.flag ∷ []) (values.Bool g.flag ∷ []) (ap (λ (n : Node). n ∷ []) both.1) ∙ sym g.list_is
one_case case entries xs ys (inl f) (inr g) = (let long = sym (ap length f.entries_are) ∙ ap length g.entries_are in absurd (omega (arith, long)))
one_case case entries xs ys (inr f) (inl g) = (let long = sym (ap length f.entries_are) ∙ ap length g.entries_are in absurd (omega (arith, long)))
one_case case entries xs ys (inr f) (inr g) =
    same_values xs ys (same_list (map value_node xs) (map value_node ys) (same_entry (nodes.List (map value_node xs)) (nodes.List (map value_node ys)) (sym f.entries_are ∙ g.entries_are)))

pub one_list : (node : Node) (xs ys : List PlcValue) → IsReading node xs → IsReading node ys → xs ≡ ys
one_list node xs ys h g =
    let case : ℕ = case_of h.registers h.kind in
    let entries : List Node = entries_of h.reserved h.kind (map value_node xs) in
    one_case case entries xs ys
    (reading_cases case entries xs (subst (λ (n : Node). IsReading n xs) h.node_is h))
    (reading_cases case entries ys (subst (λ (n : Node). IsReading n ys) h.node_is g))

zero_reserved : (registers : Bool) → IsReserved registers (pos 0)
zero_reserved true = (search rules, search rules)
zero_reserved false = (search rules, search rules)

pub data_reading : (kind : PlcType) (registers : Bool) (list : List PlcValue) → AreData kind list → IsReading (data_node (pos 0) registers kind list) list
data_reading kind registers list h = record { kind = kind; registers = registers; reserved = pos 0; data_are = h; reserved_is = zero_reserved registers; node_is = refl }

-- ---- what was read can be written

whole_kind : (kind : PlcType) (n : ℤ) → IsWhole kind n → (kind ≢ types.Bool) × (float_bits kind ≡ 0)
whole_kind types.Bool n h = absurd h
whole_kind types.Byte n h = (λ e. cc, refl)
whole_kind types.Word n h = (λ e. cc, refl)
whole_kind types.Dword n h = (λ e. cc, refl)
whole_kind types.Lword n h = (λ e. cc, refl)
whole_kind types.Sint n h = (λ e. cc, refl)
whole_kind types.Usint n h = (λ e. cc, refl)
whole_kind types.Int n h = (λ e. cc, refl)
whole_kind types.Uint n h = (λ e. cc, refl)
whole_kind types.Dint n h = (λ e. cc, refl)
whole_kind types.Udint n h = (λ e. cc, refl)
whole_kind types.Lint n h = (λ e. cc, refl)
whole_kind types.Ulint n h = (λ e. cc, refl)
whole_kind types.Real n h = absurd h
whole_kind types.Lreal n h = absurd h

kind_of : (kind : PlcType) (value : PlcValue) → IsOf kind value → IsKindOf kind value
kind_of kind (values.Bool flag) h = h
kind_of kind (values.Whole n) h = whole_kind kind n h
kind_of kind (values.Raw bits width) h = (h.0, h.1)

pub kinds_of : (kind : PlcType) (list : List PlcValue) → All (IsOf kind) list → All (IsKindOf kind) list
kinds_of kind list h = All-weaker (IsOf kind) (IsKindOf kind) (kind_of kind) list h
