-- What the private readers of a tag's parts give. What a tag is is said in Tags.
use Rattle.std.specs.Prelude.{◌≡◌, ℕ, ◌+◌, ◌-◌, ◌*◌, ◌<◌, ◌≤◌, nat_le, if◌then◌else◌, List, [], ◌∷◌, ◌++◌, length, take, drop, slice_index, decimal}
use Rattle.std.specs.List.{All, Contains}
use Rattle.wire_frames.specs.declared.kinds.Area.{Area}
use Rattle.wire_frames.specs.declared.kinds.Area.TheVariants.{Coil, DiscreteInput, InputRegister, HoldingRegister, S7Input, S7Output, S7Flag, S7Block}
use Rattle.wire_frames.specs.declared.kinds.Item.{Item}
use Rattle.wire_frames.specs.declared.kinds.PlcType.{PlcType}
use Rattle.wire_frames.specs.declared.kinds.PlcType.TheVariants.{Bool, Word, Dword, Lword, Int, Uint, Dint, Udint, Lint, Ulint, Real, Lreal}
use Rattle.tag_address.specs.declared.tags.TagWhy.{TagWhy}
use Rattle.tag_address.specs.Places.{Begins}
use Rattle.tag_address.specs.Tags.{area_text, type_text, width_of, colon, close_bracket, Holds, IsCount, IsModbusItem, IsPart}

-- a text of one language, and behind it one of another, by what the first says
pub record Then {A B : Type 0} (L : List ℕ → A → Type 0) (K : A → List ℕ → B → Type 0) (text : List ℕ) (value : B) : Type 0 where
  pub front : List ℕ
  pub behind : List ℕ
  pub said : A
  pub are : text ≡ front ++ behind
  pub first : L front said
  pub second : K said behind value

-- the text says this, and nothing else
pub record IsRead {A : Type 0} (L : List ℕ → A → Type 0) (text : List ℕ) (value : A) : Type 0 where
  pub is : L text value
  pub only : (other : A) → L text other → other ≡ value

-- no text of the language goes on at this place
pub record IsStuck {A : Type 0} (L : List ℕ → A → Type 0) (text : List ℕ) (place : ℕ) : Type 0 where
  pub within : place ≤ length text
  pub front : Begins L (take place text)
  pub next : place < length text → Begins L (take (place + 1) text) → ⊥
  pub short : place ≡ length text → (value : A) → L text value → ⊥

-- the same, where besides no text of the language stands in front
pub record IsStuckPart {A : Type 0} (L : List ℕ → A → Type 0) (text : List ℕ) (place : ℕ) : Type 0 where
  pub within : place ≤ length text
  pub front : Begins L (take place text)
  pub none : (x r : List ℕ) (value : A) → take place text ≡ x ++ r → L x value → ⊥
  pub next : place < length text → Begins L (take (place + 1) text) → ⊥

-- no text of the language goes on, in this part
pub record IsRefusal {A : Type 0} (L : List ℕ → A → Type 0) (before opened : ℕ) (text : List ℕ) (place : ℕ) (why : TagWhy) : Type 0 where
  pub at : IsStuck L text place
  pub part : place < length text → IsPart L before opened (take place text) why

-- the text doesn't begin with a byte of this kind
abbrev pub IsNotLed : (ℕ → Type 0) → List ℕ → Type 0
IsNotLed Q text = (b : ℕ) (r : List ℕ) → text ≡ b ∷ r → Q b → ⊥

-- ---- words and numbers

abbrev pub IsWord : {A : Type 0} → (A → List ℕ) → List A → List ℕ → A → Type 0
IsWord spelling words x word = Contains words word × (x ≡ spelling word)

abbrev pub IsNumber : (least most : ℕ) → List ℕ → ℕ → Type 0
IsNumber least most x n = (x ≡ decimal n) × (least ≤ n) × (n ≤ most)

-- how far a text goes on as a word: less than the word, and at most as far as `far`
pub record IsPassed (text : List ℕ) (far : ℕ) (word : List ℕ) : Type 0 where
  pub place : ℕ
  pub below : place ≤ far
  pub short : place < length word
  pub differs : place < length text → slice_index word place ≡ slice_index text place → ⊥

-- how far a text and a word go on together
pub record AreAlike (word text : List ℕ) (n : ℕ) : Type 0 where
  pub in_word : n ≤ length word
  pub in_text : n ≤ length text
  pub same : take n word ≡ take n text
  pub differs : n < length word → n < length text → slice_index text n ≡ slice_index word n → ⊥

-- the words of a list up to a place are passed, and the text goes on so far as some word
pub record ArePassed {A : Type 0} (spelling : A → List ℕ) (words : List A) (count : ℕ) (text : List ℕ) (far : ℕ) : Type 0 where
  pub within : far ≤ length text
  pub each : All (λ word. IsPassed text far (spelling word)) (take count words)
  pub some : (word : A) × Contains words word × (take far text ≡ take far (spelling word))

-- the word with which a text begins
pub record IsWordAt {A : Type 0} (spelling : A → List ℕ) (words : List A) (text : List ℕ) (word : A) (used : ℕ) : Type 0 where
  pub within : used ≤ length text
  pub is : IsWord spelling words (take used text) word

-- a digit that makes a longer number, without a leading zero, of at most `most`
abbrev pub GoesOn : (value most : ℕ) → ℕ → Type 0
GoesOn value most b = (1 ≤ value) × (48 ≤ b) × (b ≤ 57) × (value * 10 + (b - 48) ≤ most)

-- a number that goes on with the digits in front of a text, as far as it can
pub record IsLonger (value most : ℕ) (text : List ℕ) (longer used : ℕ) : Type 0 where
  pub within : used ≤ length text
  pub is : decimal longer ≡ decimal value ++ take used text
  pub least : value ≤ longer
  pub range : longer ≤ most
  pub longest : IsNotLed (GoesOn longer most) (drop used text)

-- the longest number in front of a text
pub record IsNumberAt (least most : ℕ) (text : List ℕ) (value used : ℕ) : Type 0 where
  pub within : used ≤ length text
  pub is : IsNumber least most (take used text) value
  pub longest : IsNotLed (GoesOn value most) (drop used text)

-- ---- the parts of a tag, from its end

-- a count, or none
abbrev pub IsCountUpTo : (most : ℕ) → List ℕ → ℕ → Type 0
IsCountUpTo most text count = IsCount count text × (1 ≤ count) × (count ≤ most)

-- what stands behind an opening bracket: the count, and the closing bracket
abbrev pub IsClose : ℕ → List ℕ → ℕ → Type 0
IsClose count x said = (x ≡ close_bracket ∷ []) × (said ≡ count)

abbrev pub IsBracketed : (most : ℕ) → List ℕ → ℕ → Type 0
IsBracketed most text count = Then (IsNumber 1 most) IsClose text count

-- so many values of a type lie in an area from the place with this number on
pub record Fits (area : Area) (number : ℕ) (kind : PlcType) (count : ℕ) : Type 0 where
  pub holds : Holds area kind count
  pub some : 1 ≤ count
  pub most : count ≤ 65535
  pub ends : number + width_of kind * count ≤ 65537

-- the types, by how many registers a value of them takes
abbrev pub types_by_width : List PlcType
types_by_width = Bool ∷ Word ∷ Int ∷ Uint ∷ Dword ∷ Dint ∷ Udint ∷ Real ∷ Lword ∷ Lint ∷ Ulint ∷ Lreal ∷ []

-- how many of them begin at a register
abbrev pub types_at : ℕ → ℕ
types_at number = if nat_le number 65533 then 12 else (if nat_le number 65535 then 8 else 4)

abbrev pub types_for : Area → ℕ → List PlcType
types_for Coil number = take 1 types_by_width
types_for DiscreteInput number = take 1 types_by_width
types_for InputRegister number = take (types_at number) types_by_width
types_for HoldingRegister number = take (types_at number) types_by_width
types_for S7Input number = []
types_for S7Output number = []
types_for S7Flag number = []
types_for S7Block number = []

abbrev pub modbus_areas : List Area
modbus_areas = Coil ∷ DiscreteInput ∷ InputRegister ∷ HoldingRegister ∷ []

-- an item of this area, number and type
pub record IsItemOf (area : Area) (number : ℕ) (kind : PlcType) (item : Item) : Type 0 where
  pub item_is : IsModbusItem item
  pub area_is : item.area ≡ area
  pub number_is : item.start + 1 ≡ number
  pub kind_is : item.kind ≡ kind

pub record IsBehindType (area : Area) (number : ℕ) (kind : PlcType) (text : List ℕ) (item : Item) : Type 0 where
  pub item_of : IsItemOf area number kind item
  pub count_is : IsCount item.count text

abbrev pub IsBehindColon : (area : Area) (number : ℕ) → List ℕ → Item → Type 0
IsBehindColon area number text item = Then (IsWord type_text (types_for area number)) (IsBehindType area number) text item

abbrev pub IsColon : List ℕ → ℕ → Type 0
IsColon x said = (x ≡ colon ∷ []) × (said ≡ colon)

abbrev pub IsBehindNumber : (area : Area) (number : ℕ) → List ℕ → Item → Type 0
IsBehindNumber area number text item = Then IsColon (λ _. IsBehindColon area number) text item

abbrev pub IsBehindArea : Area → List ℕ → Item → Type 0
IsBehindArea area text item = Then (IsNumber 1 65536) (IsBehindNumber area) text item

abbrev pub IsWhole : List ℕ → Item → Type 0
IsWhole text item = Then (IsWord area_text modbus_areas) IsBehindArea text item
