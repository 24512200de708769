-- URLs, and the stages in which they are read.
use Rattle.std.proofs.Common.{◌≡◌, ℕ, List, [], ◌∷◌, ◌++◌, codes, refl, sym, ap, ◌∙◌, subst, inl, inr, arith, decimal}
use Rattle.std.proofs.lemmas.List.{append-nil}
use Rattle.tag_address.specs.declared.urls.Url.{Url}
use Rattle.tag_address.specs.declared.urls.Url.TheVariants.{Modbus, S7}
use Rattle.tag_address.specs.declared.urls.UrlWord.TheVariants.{Scheme, UnitName}
use Rattle.tag_address.specs.Places.{IsRefusedAt}
use Rattle.tag_address.specs.Parts.{IsRead, IsStuck}
use Rattle.tag_address.specs.UrlParts.{IsBehindHost, IsBehindPort, IsWholeUrl, url_word}
use Rattle.tag_address.specs.Urls.{IsModbusUrl, IsPort, IsUnit, IsUrl}
use Rattle.tag_address.proofs.Languages.{said_stuck}
use Rattle.tag_address.proofs.TagLaws.{cut_as, refused_none}
use Rattle.tag_address.proofs.UrlLaws.{lone_word}

-- ---- from the stages

tail_of : (host : List ℕ) (port : ℕ) (text : List ℕ) (url : Url) → IsBehindPort host port text url → (unit : ℕ) × IsUnit unit text × (url ≡ Modbus host port unit)
tail_of host port text url (inl h) =
    let word = lone_word UnitName h.said h.first.0 in
    let number = h.second in
    let digits : h.behind ≡ decimal number.said = cut_as h.behind number.front number.behind (decimal number.said) [] number.are number.first.0 number.second.0 ∙ append-nil (decimal number.said) in
    let is : text ≡ codes "?unit-identifier=" ++ decimal number.said = cut_as text h.front h.behind (codes "?unit-identifier=") (decimal number.said) h.are (h.first.1 ∙ ap url_word word) digits in
    (number.said, inl (is, number.first.2), number.second.1)
tail_of host port text url (inr h) = (1, inr (h.0, refl), h.1)

pub record IsBehindHostOf (host text : List ℕ) (url : Url) : Type 0 where
  pub port : ℕ
  pub unit : ℕ
  pub port_text : List ℕ
  pub unit_text : List ℕ
  pub port_is : IsPort port port_text
  pub unit_is : IsUnit unit unit_text
  pub text_is : text ≡ port_text ++ unit_text
  pub url_is : url ≡ Modbus host port unit

ported_of : (host text : List ℕ) (url : Url) → IsBehindHost host text url → IsBehindHostOf host text url
ported_of host text url (inl h) =
    let number = h.second in
    let tail = tail_of host number.said number.behind url number.second in
    let behind : h.behind ≡ decimal number.said ++ number.behind = cut_as h.behind number.front number.behind (decimal number.said) number.behind number.are number.first.0 refl in
    let is : text ≡ (58 ∷ decimal number.said) ++ number.behind = cut_as text h.front h.behind (58 ∷ []) (decimal number.said ++ number.behind) h.are h.first.0 behind in
    record {
      port = number.said;
      unit = tail.0;
      port_text = 58 ∷ decimal number.said;
      unit_text = number.behind;
      port_is = inl (refl, number.first.1, number.first.2);
      unit_is = tail.1;
      text_is = is;
      url_is = tail.2;
    }
ported_of host text url (inr h) =
    let tail = tail_of host 502 text url h in
    record { port = 502; unit = tail.0; port_text = []; unit_text = text; port_is = inr (refl, refl); unit_is = tail.1; text_is = refl; url_is = tail.2 }

pub to_url : (text : List ℕ) (url : Url) → IsWholeUrl text url → IsUrl text url
to_url text url h =
    let word = lone_word Scheme h.said h.first.0 in
    let host = h.second in
    let more = ported_of host.said host.behind url host.second in
    let behind : h.behind ≡ host.said ++ (more.port_text ++ more.unit_text) = cut_as h.behind host.front host.behind host.said (more.port_text ++ more.unit_text) host.are host.first.0 more.text_is in
    let is : text ≡ codes "modbus-tcp://" ++ (host.said ++ (more.port_text ++ more.unit_text)) = cut_as text h.front h.behind (codes "modbus-tcp://") (host.said ++ (more.port_text ++ more.unit_text)) h.are (h.first.1 ∙ ap url_word word) behind in
    let made : IsModbusUrl text host.said more.port more.unit = record { host_is = host.first.1; port_text = more.port_text; unit_text = more.unit_text; port_is = more.port_is; unit_is = more.unit_is; text_is = is } in
    subst (IsUrl text) (sym more.url_is) made

-- ---- and to them

from_unit : (host : List ℕ) (port unit : ℕ) (text : List ℕ) → IsUnit unit text → IsBehindPort host port text (Modbus host port unit)
from_unit host port unit text (inl h) =
    inl (record {
      front = url_word UnitName;
      behind = decimal unit;
      said = UnitName;
      are = h.0;
      first = ((0, omega arith, refl), refl);
      second = record { front = decimal unit; behind = []; said = unit; are = sym (append-nil (decimal unit)); first = (refl, omega arith, h.1); second = (refl, refl) };
    })
from_unit host port unit text (inr h) = inr (h.0, ap (λ (u : ℕ). Modbus host port u) h.1)

from_port : (host : List ℕ) (port unit : ℕ) (port_text unit_text : List ℕ) → IsPort port port_text → IsUnit unit unit_text → IsBehindHost host (port_text ++ unit_text) (Modbus host port unit)
from_port host port unit port_text unit_text (inl h) is =
    inl (record {
      front = 58 ∷ [];
      behind = decimal port ++ unit_text;
      said = 58;
      are = ap (λ (x : List ℕ). x ++ unit_text) h.0;
      first = (refl, refl);
      second = record { front = decimal port; behind = unit_text; said = port; are = refl; first = (refl, h.1, h.2); second = from_unit host port unit unit_text is };
    })
from_port host port unit port_text unit_text (inr h) is =
    let text : port_text ++ unit_text ≡ unit_text = ap (λ (x : List ℕ). x ++ unit_text) h.0 in
    let there = from_unit host port unit unit_text is in
    inr (subst (λ (x : List ℕ). IsBehindPort host 502 x (Modbus host port unit)) (sym text) (subst (λ (p : ℕ). IsBehindPort host p unit_text (Modbus host port unit)) h.1 there))

pub from_url : (text : List ℕ) (url : Url) → IsUrl text url → IsWholeUrl text url
from_url text (Modbus host port unit) h = record {
  front = url_word Scheme;
  behind = host ++ (h.port_text ++ h.unit_text);
  said = Scheme;
  are = h.text_is;
  first = ((0, omega arith, refl), refl);
  second = record { front = host; behind = h.port_text ++ h.unit_text; said = host; are = refl; first = (refl, h.host_is); second = from_port host port unit h.port_text h.unit_text h.port_is h.unit_is };
}
from_url text (S7 host port local remote pdu) h = absurd h

-- ---- what is read, and what is refused

pub url_refused : (text : List ℕ) (place : ℕ) → IsStuck IsWholeUrl text place → IsRefusedAt IsUrl text place
url_refused text place stuck =
    let is = said_stuck IsWholeUrl IsUrl text place (λ t u h. (u, to_url t u h)) (λ t u h. (u, from_url t u h)) stuck in
    record { within = is.within; front = λ _. is.front; next = is.next; short = is.short }

pub url_exact : (text : List ℕ) (url other : Url) → IsRead IsWholeUrl text url → IsUrl text other → other ≡ url
url_exact text url other read h = read.only other (from_url text other h)

pub no_url : (text : List ℕ) (place : ℕ) (url : Url) → IsStuck IsWholeUrl text place → IsUrl text url → ⊥
no_url text place url stuck h = refused_none IsWholeUrl text place url stuck (from_url text url h)
