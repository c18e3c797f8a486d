-- Which elements spell the protocol data units (X.228), built from the values: apart from reading.
use Rattle.std.specs.Prelude.{◌≡◌, ℕ, pos, ◌≤◌, ◌<◌, ◌⊎◌, Bool, true, false, List}
use Rattle.std.specs.Prelude.{[], length, Some, is_some, unwrap_or, if◌then◌else◌}
use Rattle.mta_ber.specs.declared.tag.Tag.{Tag}
use Rattle.mta_ber.specs.declared.text.TextClass.TheVariants.{Ia5}
use Rattle.mta_ber.specs.Forms.{is_primitive_tag, is_constructed_tag}
use Rattle.mta_ber.specs.Parts.{is_tag}
use Rattle.mta_ber.specs.Strings.{own_number}
use Rattle.mta_ber.specs.Int.{SpellsInteger}
use Rattle.mta_ber.specs.Segmented.{SpellsOctets, SpellsText}
use Rattle.mta_ber.specs.Moments.{SpellsMoment}
use Rattle.mta_ber.specs.Components.{Makes, SpellsComponents}
use Rattle.mta_ber.specs.Explicit.{Spells, SpellsExplicit}
use Rattle.mta_records.specs.Reference.{Identifier, longest_reference}
use Rattle.mta_rtse.specs.declared.identifier.ReferenceParts.{ReferenceParts}
use Rattle.mta_rtse.specs.declared.bind.BindParts.{BindParts}
use Rattle.mta_rtse.specs.declared.request.RequestParts.{RequestParts}
use Rattle.mta_rtse.specs.declared.answer.AnswerParts.{AnswerParts}
use Rattle.mta_rtse.specs.declared.reason.ReasonParts.{ReasonParts}
use Rattle.mta_rtse.specs.declared.types.Request.{Request}
use Rattle.mta_rtse.specs.declared.types.Request.TheVariants as ask
use Rattle.mta_rtse.specs.declared.types.Answer.{Answer}
use Rattle.mta_rtse.specs.declared.types.Answer.TheVariants as reply
use Rattle.mta_rtse.specs.declared.types.OpenRequest.{OpenRequest}
use Rattle.mta_rtse.specs.declared.types.OpenAnswer.{OpenAnswer}
use Rattle.mta_rtse.specs.Values.{last_number}
use Rattle.mta_rtse.specs.Identifier.{no_reference}
use Rattle.mta_rtse.specs.Bind.{no_bind, longest_password}
use Rattle.mta_rtse.specs.Request.{no_request, default_window}
use Rattle.mta_rtse.specs.Answer.{no_answer}
use Rattle.mta_rtse.specs.Reason.{no_reason}

-- ---- values

abbrev pub SpellsNumber : Spells ℕ
SpellsNumber depth tag content octets n = SpellsInteger (pos 0) (pos last_number) tag.constructed content (pos n)

abbrev pub SpellsFlag : Spells Bool
SpellsFlag depth tag content octets b = SpellsInteger (pos 0) (pos 1) tag.constructed content (pos (if b then 1 else 0))

pub record SpellsShort (most depth : ℕ) (tag : Tag) (content octets o : List ℕ) : Type 0 where
  pub spelled : SpellsOctets (own_number tag) depth tag.constructed content o
  pub short : length o ≤ most

abbrev pub SpellsTime : Spells ℕ
SpellsTime depth tag content octets m = SpellsMoment depth tag.constructed content m

abbrev pub SpellsWord : Spells (List ℕ)
SpellsWord depth tag content octets w = SpellsText Ia5 1 32 depth tag.constructed content w

-- what is passed over, whatever it holds
abbrev pub SpellsAnything : Spells (Unit {0})
SpellsAnything depth tag content octets x = Unit {0}

-- ---- components

-- a component of a SET that may stand once, under a tag that is expected
pub record Fills {S A : Type 0} (expected : Tag → Bool) (taken : S → Bool) (put : A → S → S)
    (spells : Spells A) (depth : ℕ) (before : S) (tag : Tag) (content octets : List ℕ) (after : S) : Type 0 where
  pub is_tag_of : expected tag ≡ true
  pub absent : taken before ≡ false
  pub value : A
  pub spelled : spells depth tag content octets value
  pub after_is : after ≡ put value before

-- a component of a SEQUENCE, behind the last one and, where `needed` is a place, behind what stands there
pub record Follows {S A : Type 0} (class number : ℕ) (last : S → ℕ) (needed place : ℕ) (put : A → S → S)
    (spells : Spells A) (depth : ℕ) (before : S) (tag : Tag) (content octets : List ℕ) (after : S) : Type 0 where
  pub is_tag_of : is_tag class number tag ≡ true
  pub behind : last before < place
  pub reached : needed ≤ last before
  pub value : A
  pub spelled : spells depth tag content octets value
  pub after_is : after ≡ put value before

-- ---- references

abbrev pub MakesCalling : Makes ReferenceParts
MakesCalling = Follows 0 4 (λ s. s.last) 0 1 (λ o s. record s { last = 1; calling = Some o })
    (SpellsShort longest_reference)

abbrev pub MakesCommon : Makes ReferenceParts
MakesCommon = Follows 0 23 (λ s. s.last) 1 2 (λ m s. record s { last = 2; common = Some m }) SpellsTime

abbrev pub MakesAdditional : Makes ReferenceParts
MakesAdditional = Follows 2 0 (λ s. s.last) 2 3 (λ o s. record s { last = 3; additional = Some o })
    (SpellsShort longest_reference)

abbrev pub MakesReference : Makes ReferenceParts
MakesReference depth before tag content octets after =
    MakesCalling depth before tag content octets after
    ⊎ (MakesCommon depth before tag content octets after ⊎ MakesAdditional depth before tag content octets after)

pub record SpellsReference (depth : ℕ) (tag : Tag) (content octets : List ℕ) (v : Identifier) : Type 0 where
  pub is_constructed : tag.constructed ≡ true
  pub parts : ReferenceParts
  pub spelled : SpellsComponents MakesReference depth no_reference content parts
  pub calling : parts.calling ≡ Some v.calling
  pub common : parts.common ≡ Some v.common
  pub additional : parts.additional ≡ v.additional

-- ---- binds

pub record SpellsPasswordText (depth : ℕ) (tag : Tag) (content o : List ℕ) : Type 0 where
  pub is_tag_of : is_tag 0 22 tag ≡ true
  pub spelled : SpellsText Ia5 0 longest_password depth tag.constructed content o

pub record SpellsPasswordOctets (depth : ℕ) (tag : Tag) (content octets o : List ℕ) : Type 0 where
  pub is_tag_of : is_tag 0 4 tag ≡ true
  pub spelled : SpellsShort longest_password depth tag content octets o

abbrev pub SpellsPassword : Spells (List ℕ)
SpellsPassword depth tag content octets o = SpellsPasswordText depth tag content o
    ⊎ SpellsPasswordOctets depth tag content octets o

abbrev pub SpellsCredentials : Spells (List ℕ)
SpellsCredentials depth tag content octets o = SpellsExplicit SpellsPassword depth tag.constructed content o

abbrev pub MakesName : Makes BindParts
MakesName = Fills (is_tag 2 0) (λ s. is_some s.name) (λ w s. record s { name = Some w }) SpellsWord

abbrev pub MakesPassword : Makes BindParts
MakesPassword =
    Fills (is_constructed_tag 2 1) (λ s. is_some s.password) (λ o s. record s { password = Some o }) SpellsCredentials

abbrev pub MakesContext : Makes BindParts
MakesContext = Fills (is_tag 2 2) (λ s. s.context) (λ _ s. record s { context = true }) SpellsAnything

abbrev pub MakesBind : Makes BindParts
MakesBind depth before tag content octets after =
    MakesName depth before tag content octets after
    ⊎ (MakesPassword depth before tag content octets after ⊎ MakesContext depth before tag content octets after)

pub record SpellsBind (depth : ℕ) (tag : Tag) (content octets : List ℕ) (v : Request) : Type 0 where
  pub is_constructed : tag.constructed ≡ true
  pub parts : BindParts
  pub spelled : SpellsComponents MakesBind depth no_bind content parts
  pub name : List ℕ
  pub password : List ℕ
  pub name_is : parts.name ≡ Some name
  pub password_is : parts.password ≡ Some password
  pub value : v ≡ ask.Bind name password

pub record SpellsNull (tag : Tag) (content : List ℕ) (v : Request) : Type 0 where
  pub is_primitive : tag.constructed ≡ false
  pub nothing : content ≡ []
  pub value : v ≡ ask.Null

abbrev pub SpellsOpened : Spells Request
SpellsOpened depth tag content octets v = ((is_tag 0 5 tag ≡ true) × SpellsNull tag content v)
    ⊎ ((is_tag 2 1 tag ≡ true) × SpellsBind depth tag content octets v)

-- ---- connection data

abbrev pub SpellsExplicitOpened : Spells Request
SpellsExplicitOpened depth tag content octets v = SpellsExplicit SpellsOpened depth tag.constructed content v

pub record SpellsRecover (depth : ℕ) (tag : Tag) (content octets : List ℕ) (v : Request) : Type 0 where
  pub reference : Identifier
  pub spelled : SpellsReference depth tag content octets reference
  pub value : v ≡ ask.Recover reference

abbrev pub SpellsConnection : Spells Request
SpellsConnection depth tag content octets v =
    ((is_tag 2 0 tag ≡ true) × SpellsExplicitOpened depth tag content octets v)
    ⊎ ((is_tag 2 1 tag ≡ true) × SpellsRecover depth tag content octets v)

abbrev pub SpellsRequestData : Spells Request
SpellsRequestData depth tag content octets v = SpellsExplicit SpellsConnection depth tag.constructed content v

-- an answer says what a request that is not NULL does
abbrev pub request_of : Answer → Request
request_of (reply.Bind name password) = ask.Bind name password
request_of (reply.Recover reference) = ask.Recover reference

abbrev pub SpellsAnswerData : Spells Answer
SpellsAnswerData depth tag content octets v = SpellsRequestData depth tag content octets (request_of v)

-- ---- RTORQ

abbrev pub MakesRequest : Makes RequestParts
MakesRequest depth before tag content octets after =
    Fills (is_primitive_tag 2 0) (λ (s : RequestParts). is_some s.checkpoint) (λ n s. record s {
      checkpoint =
          Some n;
    }) SpellsNumber depth before tag content octets after
    ⊎ (Fills (is_primitive_tag 2 1) (λ (s : RequestParts). is_some s.window) (λ n s. record s {
      window =
          Some n;
    }) SpellsNumber depth before tag content octets after
    ⊎ (Fills (is_primitive_tag 2 2) (λ (s : RequestParts). is_some s.twa) (λ b s. record s {
      twa =
          Some b;
    }) SpellsFlag depth before tag content octets after
    ⊎ (Fills (is_constructed_tag 2 3) (λ (s : RequestParts). is_some s.request) (λ r s. record s {
      request =
          Some r;
    }) SpellsRequestData depth before tag content octets after
    ⊎ Fills (is_tag 2 4) (λ (s : RequestParts). s.protocol) (λ _ s. record s {
      protocol =
          true;
    }) SpellsAnything depth before tag content octets after)))

pub record SpellsRtorq (depth : ℕ) (tag : Tag) (content octets : List ℕ) (v : OpenRequest) : Type 0 where
  pub is_tag_of : is_tag 2 16 tag ≡ true
  pub is_constructed : tag.constructed ≡ true
  pub parts : RequestParts
  pub spelled : SpellsComponents MakesRequest depth no_request content parts
  pub checkpoint : v.checkpoint ≡ unwrap_or parts.checkpoint 0
  pub window : v.window ≡ unwrap_or parts.window default_window
  pub twa : v.twa ≡ unwrap_or parts.twa false
  pub request : parts.request ≡ Some v.request

-- ---- RTOAC

abbrev pub MakesAnswer : Makes AnswerParts
MakesAnswer depth before tag content octets after =
    Fills (is_primitive_tag 2 0) (λ (s : AnswerParts). is_some s.checkpoint) (λ n s. record s {
      checkpoint =
          Some n;
    }) SpellsNumber depth before tag content octets after
    ⊎ (Fills (is_primitive_tag 2 1) (λ (s : AnswerParts). is_some s.window) (λ n s. record s {
      window =
          Some n;
    }) SpellsNumber depth before tag content octets after
    ⊎ Fills (is_constructed_tag 2 2) (λ (s : AnswerParts). is_some s.answer) (λ a s. record s {
      answer =
          Some a;
    }) SpellsAnswerData depth before tag content octets after)

pub record SpellsRtoac (depth : ℕ) (tag : Tag) (content octets : List ℕ) (v : OpenAnswer) : Type 0 where
  pub is_tag_of : is_tag 2 17 tag ≡ true
  pub is_constructed : tag.constructed ≡ true
  pub parts : AnswerParts
  pub spelled : SpellsComponents MakesAnswer depth no_answer content parts
  pub checkpoint : v.checkpoint ≡ unwrap_or parts.checkpoint 0
  pub window : v.window ≡ unwrap_or parts.window default_window
  pub answer : parts.answer ≡ Some v.answer

-- ---- RTORJ and RTAB

pub record MakesSecond (before : ReasonParts) (tag : Tag) (after : ReasonParts) : Type 0 where
  pub aborts : before.aborts ≡ true
  pub is_tag_of : is_tag 2 2 tag ≡ true
  pub absent : before.second ≡ false
  pub after_is : after ≡ record before { second = true }

abbrev pub MakesReason : Makes ReasonParts
MakesReason depth before tag content octets after =
    Fills (is_primitive_tag 2 0) (λ (s : ReasonParts). is_some s.reason) (λ n s. record s {
      reason =
          Some n;
    }) SpellsNumber depth before tag content octets after
    ⊎ (Fills (is_tag 2 1) (λ (s : ReasonParts). s.first) (λ _ s. record s {
      first =
          true;
    }) SpellsAnything depth before tag content octets after
    ⊎ MakesSecond before tag after)

-- the reason under a tag; components `[1]` and, of RTAB, `[2]` are passed over
pub record SpellsReason (number : ℕ) (aborts : Bool) (depth : ℕ) (tag : Tag) (content octets : List ℕ)
    (reason : ℕ) : Type 0 where
  pub is_tag_of : is_tag 2 number tag ≡ true
  pub is_constructed : tag.constructed ≡ true
  pub parts : ReasonParts
  pub spelled : SpellsComponents MakesReason depth (no_reason aborts) content parts
  pub reason_is : reason ≡ unwrap_or parts.reason 0

abbrev pub SpellsRtorj : Spells ℕ
SpellsRtorj = SpellsReason 18 false

abbrev pub SpellsRtab : Spells ℕ
SpellsRtab = SpellsReason 22 true
