-- How long what is written is at most.
use Rattle.std.proofs.Common.{◌≡◌, ℕ, ◌+◌, ◌≤◌, Bool, true, false, cond, eqb, List, [], ◌∷◌, ◌++◌, length, Option, Some}
use Rattle.std.proofs.Common.{None, refl, arith, ℤ, pos}
use Rattle.std.specs.Prelude.{IfSome}
use Rattle.std.proofs.lemmas.List.{length-append}
use Rattle.std.specs.Int.{w64, to_be_bytes, cast_unsigned}
use Rattle.mta_ber.specs.declared.tag.Tag.{Tag}
use Rattle.mta_ber.specs.Canon.{element, primitive, constructed, optional}
use Rattle.mta_ber.specs.Contents.{as_primitive, is_redundant, shortest, int_content, canon_int, utc_content, canon_utc}
use Rattle.mta_ber.proofs.RoundTrip.{element_short}
use Rattle.mta_records.specs.Reference.{Identifier, IsIdentifier}
use Rattle.mta_rtse.specs.declared.types.Request.{Request}
use Rattle.mta_rtse.specs.declared.types.Request.TheVariants as ask
use Rattle.mta_rtse.specs.declared.types.Answer.{Answer}
use Rattle.mta_rtse.specs.declared.types.Answer.TheVariants as reply
use Rattle.mta_rtse.specs.Spelling.{request_of}
use Rattle.mta_rtse.specs.Request.{default_window}
use Rattle.mta_rtse.specs.Canon.{canon_reference, canon_bind, canon_null, canon_request_data, canon_answer_data}
use Rattle.mta_rtse.specs.Canon.{canon_unless, canon_flag, canon_rtorq, canon_rtoac, canon_reason, HasIdentifier}
use Rattle.mta_rtse.specs.Canon.{IsWritableRequest}

shortest_short : (octets : List ℕ) → length (shortest octets) ≤ length octets
shortest_short [] = omega arith
shortest_short (b ∷ rest) = go (is_redundant b rest) (shortest_short rest)
  where
    go : (c : Bool) → length (shortest rest) ≤ length rest
        → length (cond c (shortest rest) (b ∷ rest)) ≤ length (b ∷ rest)
    go true h = omega (arith, h)
    go false h = omega arith

pub int_short : (t : Tag) (n : ℤ) → length (canon_int t n) ≤ 22
unfolding int_content
int_short t n = omega (
  arith,
  element_short (as_primitive t) (int_content n),
  shortest_short (to_be_bytes w64 (cast_unsigned w64 n)),
)

thirteen : (m : ℕ) → length (utc_content m) ≡ 13
unfolding utc_content
thirteen m = refl

pub utc_short : (t : Tag) (m : ℕ) → length (canon_utc t m) ≤ 27
utc_short t m = omega (arith, element_short (as_primitive t) (utc_content m), thirteen m)

additional_short : (o : Option (List ℕ)) (most : ℕ) → IfSome o (λ octets. length octets ≤ most)
    → length (optional (element (primitive 2 0)) o) ≤ 14 + most
additional_short None most h = omega arith
additional_short (Some octets) most h = omega (arith, h, element_short (primitive 2 0) octets)

pub reference_short : (t : Tag) (i : Identifier) → IsIdentifier i → length (canon_reference t i) ≤ 2117
unfolding canon_reference
reference_short t i h =
    let calling = element (primitive 0 4) i.calling in
    let common = canon_utc (primitive 0 23) i.common in
    let additional = optional (element (primitive 2 0)) i.additional in
    omega (
      arith,
      element_short t (calling ++ common ++ additional),
      length-append (calling ++ common) additional,
      length-append calling common,
      element_short (primitive 0 4) i.calling,
      h.calling_short,
      utc_short (primitive 0 23) i.common,
      additional_short i.additional 1024 h.additional_short,
    )

bind_short : (name password : List ℕ) → length name ≤ 32 → length password ≤ 62
    → length (canon_bind name password) ≤ 164
unfolding canon_bind
bind_short name password h g =
    let word = element (primitive 0 22) password in
    let credentials = element (constructed 2 1) word in
    let named = element (primitive 2 0) name in
    let set = element (constructed 2 1) (named ++ credentials) in
    omega (
      arith,
      h,
      g,
      element_short (primitive 0 22) password,
      element_short (constructed 2 1) word,
      element_short (primitive 2 0) name,
      element_short (constructed 2 1) (named ++ credentials),
      length-append named credentials,
      element_short (constructed 2 0) set,
    )

null_short : length canon_null ≤ 28
unfolding canon_null
null_short = omega (
  arith,
  element_short (primitive 0 5) [],
  element_short (constructed 2 0) (element (primitive 0 5) []),
)

pub request_data_short : (r : Request) → IsWritableRequest r → HasIdentifier r → length (canon_request_data r) ≤ 2117
request_data_short ask.Null w h = omega (arith, null_short)
request_data_short (ask.Bind name password) w h =
    omega (arith, bind_short name password w.name_fits.at_most w.password_fits.at_most)
request_data_short (ask.Recover reference) w h = reference_short (constructed 2 1) reference h

answer_data_short : (a : Answer) → IsWritableRequest (request_of a) → HasIdentifier (request_of a)
    → length (canon_answer_data a) ≤ 2117
answer_data_short (reply.Bind name password) w h =
    omega (arith, bind_short name password w.name_fits.at_most w.password_fits.at_most)
answer_data_short (reply.Recover reference) w h = reference_short (constructed 2 1) reference h

unless_short : (default number n : ℕ) → length (canon_unless default number n) ≤ 22
unless_short default number n = go (eqb n default)
  where
    go : (b : Bool) → length (cond b [] (canon_int (primitive 2 number) (pos n))) ≤ 22
    go true = omega arith
    go false = int_short (primitive 2 number) (pos n)

flag_short : (number : ℕ) (b : Bool) → length (canon_flag number b) ≤ 22
flag_short number true = int_short (primitive 2 number) (pos 1)
flag_short number false = omega arith

pub rtorq_short : (checkpoint window : ℕ) (twa : Bool) (r : Request) → IsWritableRequest r → HasIdentifier r
    → length (canon_rtorq checkpoint window twa r) ≤ 2211
unfolding canon_rtorq
rtorq_short checkpoint window twa r w h =
    let first = canon_unless 0 0 checkpoint in
    let second = canon_unless default_window 1 window in
    let third = canon_flag 2 twa in
    let fourth = element (constructed 2 3) (canon_request_data r) in
    omega (
      arith,
      element_short (constructed 2 16) (first ++ second ++ third ++ fourth),
      length-append (first ++ second ++ third) fourth,
      length-append (first ++ second) third,
      length-append first second,
      unless_short 0 0 checkpoint,
      unless_short default_window 1 window,
      flag_short 2 twa,
      element_short (constructed 2 3) (canon_request_data r),
      request_data_short r w h,
    )

pub rtoac_short : (checkpoint window : ℕ) (a : Answer) → IsWritableRequest (request_of a) → HasIdentifier (request_of a)
    → length (canon_rtoac checkpoint window a) ≤ 2189
unfolding canon_rtoac
rtoac_short checkpoint window a w h =
    let first = canon_unless 0 0 checkpoint in
    let second = canon_unless default_window 1 window in
    let third = element (constructed 2 2) (canon_answer_data a) in
    omega (
      arith,
      element_short (constructed 2 17) (first ++ second ++ third),
      length-append (first ++ second) third,
      length-append first second,
      unless_short 0 0 checkpoint,
      unless_short default_window 1 window,
      element_short (constructed 2 2) (canon_answer_data a),
      answer_data_short a w h,
    )

pub reason_short : (number reason : ℕ) → length (canon_reason number reason) ≤ 36
unfolding canon_reason
reason_short number reason =
    omega (
      arith,
      element_short (constructed 2 number) (canon_int (primitive 2 0) (pos reason)),
      int_short (primitive 2 0) (pos reason),
    )
