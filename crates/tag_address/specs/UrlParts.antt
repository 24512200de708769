-- What the private readers of a URL's parts give. What a URL is is said in Urls.
use Rattle.std.specs.Prelude.{◌≡◌, ℕ, ◌≤◌, ◌⊎◌, List, [], ◌∷◌, length, take, drop, codes}
use Rattle.std.specs.List.{AllByRecursion}
use Rattle.tag_address.specs.declared.urls.Url.{Url}
use Rattle.tag_address.specs.declared.urls.Url.TheVariants.{Modbus}
use Rattle.tag_address.specs.declared.urls.UrlWord.{UrlWord}
use Rattle.tag_address.specs.declared.urls.UrlWord.TheVariants.{Scheme, UnitName}
use Rattle.tag_address.specs.Parts.{IsColon, IsNotLed, IsNumber, IsWord, Then}
use Rattle.tag_address.specs.Urls.{IsHost, IsHostByte}

abbrev pub url_word : UrlWord → List ℕ
url_word Scheme = codes "modbus-tcp://"
url_word UnitName = codes "?unit-identifier="

-- the end of a text that names this device
abbrev pub IsEnd : Url → List ℕ → Url → Type 0
IsEnd url text said = (text ≡ []) × (said ≡ url)

abbrev pub IsBehindQuery : List ℕ → ℕ → List ℕ → Url → Type 0
IsBehindQuery host port text url = Then (IsNumber 0 255) (λ unit. IsEnd (Modbus host port unit)) text url

abbrev pub IsBehindPort : List ℕ → ℕ → List ℕ → Url → Type 0
IsBehindPort host port text url = Then (IsWord url_word (UnitName ∷ [])) (λ _. IsBehindQuery host port) text url ⊎ IsEnd (Modbus host port 1) text url

abbrev pub IsBehindPortColon : List ℕ → List ℕ → Url → Type 0
IsBehindPortColon host text url = Then (IsNumber 1 65535) (IsBehindPort host) text url

abbrev pub IsBehindHost : List ℕ → List ℕ → Url → Type 0
IsBehindHost host text url = Then IsColon (λ _. IsBehindPortColon host) text url ⊎ IsBehindPort host 502 text url

abbrev pub IsHostText : List ℕ → List ℕ → Type 0
IsHostText x host = (x ≡ host) × IsHost host

abbrev pub IsBehindScheme : List ℕ → Url → Type 0
IsBehindScheme text url = Then IsHostText IsBehindHost text url

abbrev pub IsWholeUrl : List ℕ → Url → Type 0
IsWholeUrl text url = Then (IsWord url_word (Scheme ∷ [])) (λ _. IsBehindScheme) text url

-- the bytes of a host in front of a text, as many as there are
pub record IsHostAt (text : List ℕ) (used : ℕ) : Type 0 where
  pub within : used ≤ length text
  pub all : AllByRecursion IsHostByte (take used text)
  pub longest : IsNotLed IsHostByte (drop used text)
