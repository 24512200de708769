-- Blocks of lines, each under a word of its own: no two of their lines have the same path.
use Rattle.std.proofs.Common.{◌≡◌, ◌≢◌, ◌<◌, ℕ, List, [], ◌∷◌, ◌++◌, length, refl, sym, ap, ◌∙◌, ◌⊎◌, inl, inr, arith, append_assoc}
use Rattle.std.specs.List.{AllByRecursion}
use Rattle.std.proofs.lemmas.List.{append_cancel_left, length-append}
use Rattle.mspec_listings.specs.Listings.{Line}
use Rattle.mspec_listings.specs.Paths.{HaveOwnPaths, path_of}
use Rattle.mspec_listings.proofs.SolidLemmas.{all-append}

pub all-weaker : {A : Type 0} (P Q : A → Type 0) → ((x : A) → P x → Q x) → (xs : List A) → AllByRecursion P xs → AllByRecursion Q xs
all-weaker P Q f [] h = tt
all-weaker P Q f (x ∷ xs) h = (f x h.0, all-weaker P Q f xs h.1)

-- how a path goes on behind a word: not at all, to a field or to an item
abbrev pub IsJoint : List ℕ → Type 0
IsJoint [] = Unit {0}
IsJoint (b ∷ more) = (b ≡ 46) ⊎ (b ≡ 91)

-- a word has no dot and no bracket that opens
abbrev pub IsWord : List ℕ → Type 0
IsWord word = AllByRecursion (λ b. (b ≢ 46) × (b ≢ 91)) word

-- the path goes on behind this one
pub record Extends (path longer : List ℕ) : Type 0 where
  pub more : List ℕ
  pub joint : IsJoint more
  pub whole : longer ≡ path ++ more

no_joint : (b : ℕ) → (b ≢ 46) × (b ≢ 91) → (b ≡ 46) ⊎ (b ≡ 91) → ⊥
no_joint b h (inl e) = h.0 e
no_joint b h (inr e) = h.1 e

nothing : (c : ℕ) (more : List ℕ) → [] ≡ c ∷ more → ⊥
nothing c more e = cc

moved : (b c : ℕ) → b ≡ c → (b ≡ 46) ⊎ (b ≡ 91) → (c ≡ 46) ⊎ (c ≡ 91)
moved b c e (inl h) = inl (sym e ∙ h)
moved b c e (inr h) = inr (sym e ∙ h)

-- what goes on in one way began with one word
same_words : (w v s t : List ℕ) → IsWord w → IsWord v → IsJoint s → IsJoint t → w ++ s ≡ v ++ t → w ≡ v
same_words [] [] s t p q j k e = refl
same_words [] (c ∷ v) [] t p q j k e = absurd (nothing c (v ++ t) e)
same_words [] (c ∷ v) (b ∷ s) t p q j k e =
    let first : b ≡ c = cc in
    absurd (no_joint c q.0 (moved b c first j))
same_words (c ∷ w) [] s [] p q j k e = absurd (nothing c (w ++ s) (sym e))
same_words (c ∷ w) [] s (b ∷ t) p q j k e =
    let first : b ≡ c = cc in
    absurd (no_joint c p.0 (moved b c first k))
same_words (c ∷ w) (c' ∷ v) s t p q j k e =
    let first : c ≡ c' = cc in
    let rest : w ++ s ≡ v ++ t = cc in
    let same = same_words w v s t p.1 q.1 j k rest in
    cc

-- ---- blocks

pub record Block (base : List ℕ) : Type 0 where
  pub word : List ℕ
  pub lines : List Line
  pub proper : IsWord word
  pub some : word ≢ []
  pub under : AllByRecursion (λ line. Extends (base ++ word) (path_of line)) lines
  pub own : HaveOwnPaths lines

abbrev pub lines_in : {base : List ℕ} → List (Block base) → List Line
lines_in [] = []
lines_in (block ∷ blocks) = block.lines ++ lines_in blocks

abbrev pub HaveOwnWords : {base : List ℕ} → List (Block base) → Type 0
HaveOwnWords [] = Unit {0}
HaveOwnWords (block ∷ blocks) = AllByRecursion (λ other. block.word ≢ other.word) blocks × HaveOwnWords blocks

-- a line under some word other than this one
record Other (base word longer : List ℕ) : Type 0 where
  own : List ℕ
  proper : IsWord own
  differs : word ≢ own
  under : Extends (base ++ own) longer

differ : (base word : List ℕ) → IsWord word → (x y : Line) → Extends (base ++ word) (path_of x) → Other base word (path_of y) → path_of x ≢ path_of y
differ base word p x y h k = λ e. k.differs (same_words word k.own h.more k.under.more p k.proper h.joint k.under.joint
    (append_cancel_left base (word ++ h.more) (k.own ++ k.under.more)
    (sym (append_assoc base word h.more) ∙ sym h.whole ∙ e ∙ k.under.whole ∙ append_assoc base k.own k.under.more)))

all_differ : (P R : Line → Type 0) → ((x y : Line) → P x → R y → path_of x ≢ path_of y) → (x : Line) (ys : List Line) → P x → AllByRecursion R ys → AllByRecursion (λ y. path_of x ≢ path_of y) ys
all_differ P R f x ys p h = all-weaker R (λ y. path_of x ≢ path_of y) (λ y r. f x y p r) ys h

pub own-append : (P R : Line → Type 0) → ((x y : Line) → P x → R y → path_of x ≢ path_of y) → (xs ys : List Line)
    → AllByRecursion P xs → AllByRecursion R ys → HaveOwnPaths xs → HaveOwnPaths ys → HaveOwnPaths (xs ++ ys)
own-append P R f [] ys p r h k = k
own-append P R f (x ∷ xs) ys p r h k =
    (all-append (λ y. path_of x ≢ path_of y) xs ys h.0 (all_differ P R f x ys p.0 r), own-append P R f xs ys p.1 r h.1 k)

others : {base : List ℕ} (word : List ℕ) (blocks : List (Block base)) → AllByRecursion (λ other. word ≢ other.word) blocks → AllByRecursion (λ line. Other base word (path_of line)) (lines_in blocks)
others word [] h = tt
others {base} word (block ∷ blocks) h =
    all-append (λ line. Other base word (path_of line)) block.lines (lines_in blocks)
    (all-weaker (λ line. Extends (base ++ block.word) (path_of line)) (λ line. Other base word (path_of line))
    (λ line under. record { own = block.word; proper = block.proper; differs = h.0; under = under }) block.lines block.under)
    (others word blocks h.1)

pub own_blocks : {base : List ℕ} (blocks : List (Block base)) → HaveOwnWords blocks → HaveOwnPaths (lines_in blocks)
own_blocks [] h = tt
own_blocks {base} (block ∷ blocks) h =
    own-append (λ line. Extends (base ++ block.word) (path_of line)) (λ line. Other base block.word (path_of line)) (differ base block.word block.proper)
    block.lines (lines_in blocks) block.under (others block.word blocks h.0) block.own (own_blocks blocks h.1)

-- a path behind the base and some word
pub record Behind (base longer : List ℕ) : Type 0 where
  pub more : List ℕ
  pub some : more ≢ []
  pub whole : longer ≡ base ++ more

some-append : (w s : List ℕ) → w ≢ [] → (w ++ s) ≢ []
some-append [] s h = absurd (h refl)
some-append (b ∷ w) s h = λ e. cc

pub behind_blocks : {base : List ℕ} (blocks : List (Block base)) → AllByRecursion (λ line. Behind base (path_of line)) (lines_in blocks)
behind_blocks [] = tt
behind_blocks {base} (block ∷ blocks) =
    all-append (λ line. Behind base (path_of line)) block.lines (lines_in blocks)
    (all-weaker (λ line. Extends (base ++ block.word) (path_of line)) (λ line. Behind base (path_of line))
    (λ line under. record {
      more = block.word ++ under.more;
      some = some-append block.word under.more block.some;
      whole = under.whole ∙ append_assoc base block.word under.more;
    }) block.lines block.under)
    (behind_blocks blocks)

some_length : (more : List ℕ) → more ≢ [] → 0 < length more
some_length [] h = absurd (h refl)
some_length (b ∷ more) h = omega arith

-- a path isn't one that goes on behind it
pub not_behind : (path mid : List ℕ) (x y : Line) → path_of x ≡ path → Behind (path ++ mid) (path_of y) → path_of x ≢ path_of y
not_behind path mid x y e h = λ same.
    let longer = some_length h.more h.some in
    let lengths : length path ≡ length ((path ++ mid) ++ h.more) = ap length (sym e ∙ same ∙ h.whole) in
    let a = length-append (path ++ mid) h.more in
    let b = length-append path mid in
    omega arith
