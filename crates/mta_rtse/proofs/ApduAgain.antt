-- What is written of RTORQ, RTOAC, RTORJ and RTAB is read again.
use Rattle.std.proofs.Common.{◌≡◌, append_assoc, ℕ, ◌+◌, ◌^◌, ◌≤◌, ◌<◌, Bool, true, false, cond, eqb, List, [], ◌++◌}
use Rattle.std.proofs.Common.{length, Option, Some, None, Result, Ok, refl, sym, ap, subst, ◌∙◌, arith, pos}
use Rattle.std.specs.Prelude.{unwrap_or}
use Rattle.std.proofs.lemmas.Bool.{eqb-true}
use Rattle.std.proofs.lemmas.List.{length-append}
use Rattle.mta_ber.specs.declared.fault.Fault.{Fault}
use Rattle.mta_ber.specs.declared.text.TextClass.TheVariants.{Ia5}
use Rattle.mta_ber.specs.Head.{◌>>=◌}
use Rattle.mta_ber.specs.Element.{Part}
use Rattle.mta_ber.specs.Parts.{required}
use Rattle.mta_ber.specs.Strings.{IsText}
use Rattle.mta_ber.specs.Canon.{element, primitive, constructed}
use Rattle.mta_ber.specs.Contents.{int_content, canon_int}
use Rattle.mta_ber.proofs.CanonLaws.{lent}
use Rattle.mta_ber.proofs.RoundTrip.{element_long, element_short, text_again, Taken, one_taken, last_taken, whole_taken}
use Rattle.mta_records.specs.Reference.{Identifier, IsIdentifier}
use Rattle.mta_rtse.specs.declared.bind.BindParts.{BindParts}
use Rattle.mta_rtse.specs.declared.request.RequestParts.{RequestParts}
use Rattle.mta_rtse.specs.declared.answer.AnswerParts.{AnswerParts}
use Rattle.mta_rtse.specs.declared.reason.ReasonParts.{ReasonParts}
use Rattle.mta_rtse.specs.declared.types.Request.{Request}
use Rattle.mta_rtse.specs.declared.types.Request.TheVariants as ask
use Rattle.mta_rtse.specs.declared.types.Answer.{Answer}
use Rattle.mta_rtse.specs.declared.types.Answer.TheVariants as reply
use Rattle.mta_rtse.specs.declared.types.OpenRequest.{OpenRequest}
use Rattle.mta_rtse.specs.declared.types.OpenAnswer.{OpenAnswer}
use Rattle.mta_rtse.specs.Bind.{longest_password, password_in, explicit_password_in, bind_step, no_bind, bind_in}
use Rattle.mta_rtse.specs.Bind.{null_in, open_in}
use Rattle.mta_rtse.specs.Connection.{explicit_open_in, recover_in, connection_in, request_in, answer_of, answer_in}
use Rattle.mta_rtse.specs.Request.{default_window, rtorq_step, no_request, rtorq_parts_in, rtorq_in}
use Rattle.mta_rtse.specs.Answer.{rtoac_step, no_answer, rtoac_parts_in, rtoac_in}
use Rattle.mta_rtse.specs.Reason.{reason_step, reason_in, rtorj_in, rtab_in}
use Rattle.mta_rtse.specs.Spelling.{request_of}
use Rattle.mta_rtse.specs.Canon.{canon_reference, canon_bind, canon_null, canon_request_data, canon_answer_data}
use Rattle.mta_rtse.specs.Canon.{canon_unless, canon_flag, HasIdentifier, IsWritableRequest, IsReadAgain}
use Rattle.mta_rtse.proofs.SizeLaws.{reference_short}
use Rattle.mta_rtse.proofs.AgainLaws.{context, universal, int_fits, number_again, flag_again, word_again}
use Rattle.mta_rtse.proofs.AgainLaws.{explicit_again, reference_content, reference_again}

-- what is read again can be written
pub writable : (q : Request) → IsReadAgain q → IsWritableRequest q
writable ask.Null h = tt
writable (ask.Bind name password) h = h
writable (ask.Recover i) h = tt

pub identified : (q : Request) → IsReadAgain q → HasIdentifier q
identified ask.Null h = tt
identified (ask.Bind name password) h = tt
identified (ask.Recover i) h = h

-- ---- binds

abbrev bind_parts : Option (List ℕ) → Option (List ℕ) → BindParts
bind_parts name password = record { name = name; password = password; context = false }

abbrev bind_content : List ℕ → List ℕ → List ℕ
bind_content name password = element (primitive 2 0) name
    ++ element (constructed 2 1) (element (primitive 0 22) password)

password_again : (password : List ℕ) → IsText Ia5 0 longest_password password → (at depth : ℕ) (r : List ℕ) → depth ≤ 16
    → password_in (lent at depth (primitive 0 22) password r) ≡ Ok password
unfolding password_in
password_again password h at depth r d =
    text_again Ia5 0 longest_password (lent at depth (primitive 0 22) password r) refl d h

name_taken : (name : List ℕ) → IsText Ia5 1 32 name → (depth : ℕ) → depth ≤ 16 → (at : ℕ) (r : List ℕ)
    → bind_step no_bind (lent at depth (primitive 2 0) name r) ≡ Ok (bind_parts (Some name) None)
unfolding bind_step
name_taken name h depth d at r = ap (λ x. x >>= λ w. Ok (bind_parts (Some w) None)) (word_again name h at depth 2 0 r d)

password_taken : (name password : List ℕ) → IsText Ia5 0 longest_password password
    → length (element (primitive 0 22) password) < 2 ^ 64 → (depth : ℕ) → depth + 1 ≤ 16 → (at : ℕ) (r : List ℕ)
    → bind_step (bind_parts (Some name) None)
    (lent at depth (constructed 2 1) (element (primitive 0 22) password) r) ≡ Ok
    (bind_parts (Some name) (Some password))
unfolding bind_step explicit_password_in
password_taken name password h fits depth d at r =
    ap (λ x. x >>= λ o. Ok (bind_parts (Some name) (Some o)))
    (explicit_again password_in password at depth 1 (primitive 0 22) password r (universal false 22 (omega arith))
    (omega (arith, h.at_most)) d (λ at. password_again password h at (depth + 1) [] d))

abbrev bind_finished : ℕ → BindParts → Result Request Fault
bind_finished at s = required s.name at >>= λ w. required s.password at >>= λ o. Ok (ask.Bind w o)

bind_again : (name password : List ℕ) → IsText Ia5 1 32 name → IsText Ia5 0 longest_password password
    → length (element (primitive 0 22) password) < 2 ^ 64 → (at depth : ℕ) (r : List ℕ) → depth + 2 ≤ 16
    → open_in (lent at depth (constructed 2 1) (bind_content name password) r) ≡ Ok (ask.Bind name password)
unfolding open_in bind_in
bind_again name password h g fits at depth r d =
    let whole = lent at depth (constructed 2 1) (bind_content name password) r in
    let last = bind_parts (Some name) (Some password) in
    let shallow : depth + 1 ≤ 16 = omega arith in
    let deeper : depth + 1 + 1 ≤ 16 = omega arith in
    let taken = one_taken bind_step (depth + 1) no_bind (bind_parts (Some name) None) last (primitive 2 0) name
    (element (constructed 2 1) (element (primitive 0 22) password)) (context false 0 (omega arith))
    (omega (arith, h.at_most)) shallow
    (name_taken name h (depth + 1) shallow)
    (last_taken bind_step (depth + 1) (bind_parts (Some name) None) last (constructed 2 1)
    (element (primitive 0 22) password) (context true 1 (omega arith)) fits shallow
    (password_taken name password g fits (depth + 1) deeper)) in
    ap (λ r. r >>= bind_finished at) (whole_taken bind_step no_bind last whole taken)

null_again : (at depth : ℕ) (r : List ℕ) → open_in (lent at depth (primitive 0 5) [] r) ≡ Ok ask.Null
unfolding open_in null_in
null_again at depth r = refl

-- ---- connection data

record Small (name password : List ℕ) : Type 0 where
  word : length (element (primitive 0 22) password) ≤ 76
  content : length (bind_content name password) ≤ 136
  set : length (element (constructed 2 1) (bind_content name password)) ≤ 150

small : (name password : List ℕ) → length name ≤ 32 → length password ≤ 62 → Small name password
small name password h g =
    let word = element (primitive 0 22) password in
    let credentials = element (constructed 2 1) word in
    let named = element (primitive 2 0) name in
    let w : length word ≤ 76 = omega (arith, g, element_short (primitive 0 22) password) in
    let c : length (named ++ credentials) ≤ 136 =
    omega (
      arith,
      w,
      h,
      element_short (constructed 2 1) word,
      element_short (primitive 2 0) name,
      length-append named credentials,
    ) in
    record { word = w; content = c; set = omega (arith, c, element_short (constructed 2 1) (named ++ credentials)) }

null_data_again : (at depth number : ℕ) (r : List ℕ) → depth + 4 ≤ 16
    → request_in (lent at depth (constructed 2 number) canon_null r) ≡ Ok ask.Null
unfolding request_in connection_in explicit_open_in canon_null
null_data_again at depth number r d =
    explicit_again connection_in ask.Null at depth number (constructed 2 0) (element (primitive 0 5) []) r
    (context true 0 (omega arith)) (omega (arith, element_short (primitive 0 5) [])) (omega arith)
    (λ at. explicit_again open_in ask.Null at (depth + 1) 0 (primitive 0 5) [] [] (universal false 5 (omega arith))
    (omega arith) (omega arith) (λ at. null_again at (depth + 1 + 1) []))

bind_data_again : (name password : List ℕ) → IsText Ia5 1 32 name → IsText Ia5 0 longest_password password
    → (at depth number : ℕ) (r : List ℕ) → depth + 4 ≤ 16
    → request_in (lent at depth (constructed 2 number) (canon_bind name password) r) ≡ Ok (ask.Bind name password)
unfolding request_in connection_in explicit_open_in canon_bind
bind_data_again name password h g at depth number r d =
    let content = bind_content name password in
    let set = element (constructed 2 1) content in
    let s = small name password h.at_most g.at_most in
    explicit_again connection_in (ask.Bind name password) at depth number (constructed 2 0) set r
    (context true 0 (omega arith)) (omega (arith, s.set)) (omega arith)
    (λ at. explicit_again open_in (ask.Bind name password) at (depth + 1) 0 (constructed 2 1) content []
    (context true 1 (omega arith)) (omega (arith, s.content)) (omega arith)
    (λ at. bind_again name password h g (omega (arith, s.word)) at (depth + 1 + 1) [] (omega arith)))

recover_data_again : (i : Identifier) → IsIdentifier i → (at depth number : ℕ) (r : List ℕ) → depth + 4 ≤ 16
    → request_in (lent at depth (constructed 2 number) (canon_reference (constructed 2 1) i) r) ≡ Ok (ask.Recover i)
unfolding request_in connection_in recover_in canon_reference
recover_data_again i h at depth number r d =
    let content = reference_content i in
    let long = reference_short (constructed 2 1) i h in
    explicit_again connection_in (ask.Recover i) at depth number (constructed 2 1) content r
    (context true 1 (omega arith)) (omega (arith, long, element_long (constructed 2 1) content)) (omega arith)
    (λ at. ap (λ r. r >>= λ r. Ok (ask.Recover r)) (reference_again i h at (depth + 1) 2 1 [] (omega arith)))

pub request_data_again : (q : Request) → IsReadAgain q → (at depth number : ℕ) (r : List ℕ) → depth + 4 ≤ 16
    → request_in (lent at depth (constructed 2 number) (canon_request_data q) r) ≡ Ok q
request_data_again ask.Null h at depth number r d = null_data_again at depth number r d
request_data_again (ask.Bind name password) h at depth number r d =
    bind_data_again name password h.name_fits h.password_fits at depth number r d
request_data_again (ask.Recover i) h at depth number r d = recover_data_again i h at depth number r d

pub answer_octets : (a : Answer) → canon_answer_data a ≡ canon_request_data (request_of a)
answer_octets (reply.Bind name password) = refl
answer_octets (reply.Recover i) = refl

answers : (at : ℕ) (a : Answer) → answer_of at (request_of a) ≡ Ok a
answers at (reply.Bind name password) = refl
answers at (reply.Recover i) = refl

answer_data_again : (a : Answer) → IsReadAgain (request_of a) → (at depth number : ℕ) (r : List ℕ) → depth + 4 ≤ 16
    → answer_in (lent at depth (constructed 2 number) (canon_answer_data a) r) ≡ Ok a
unfolding answer_in
answer_data_again a h at depth number r d =
    ap (λ o. request_in (lent at depth (constructed 2 number) o r) >>= answer_of at) (answer_octets a)
    ∙ ap (λ x. x >>= answer_of at) (request_data_again (request_of a) h at depth number r d)
    ∙ answers at a

-- ---- components that are left out where they equal their defaults

abbrev given : ℕ → ℕ → Option ℕ
given default n = cond (eqb n default) None (Some n)

given_is : (default n : ℕ) → unwrap_or (given default n) default ≡ n
given_is default n = go (eqb n default) refl
  where
    go : (b : Bool) → eqb n default ≡ b → unwrap_or (cond b None (Some n)) default ≡ n
    go true e = sym (eqb-true n default e)
    go false e = refl

abbrev flagged : Bool → Option Bool
flagged true = Some true
flagged false = None

flagged_is : (b : Bool) → unwrap_or (flagged b) false ≡ b
flagged_is true = refl
flagged_is false = refl

module _ {S : Type 0} (step : S → Part → Result S Fault) (depth : ℕ) (d : depth ≤ 16) where
  unless_taken : (put : Option ℕ → S) (s : S) (default number n : ℕ) (more : List ℕ) → number < 31
      → ((at : ℕ) (r : List ℕ) → step (put None) (lent at depth (primitive 2 number) (int_content (pos n)) r) ≡ Ok
      (put (Some n)))
      → Taken step depth (put (given default n)) more s
      → Taken step depth (put None) (canon_unless default number n ++ more) s
  unless_taken put s default number n more low h t = go (eqb n default) t
    where
      go : (b : Bool) → Taken step depth (put (cond b None (Some n))) more s
          → Taken step depth (put None) (cond b [] (canon_int (primitive 2 number) (pos n)) ++ more) s
      go true t = t
      go false t = one_taken step depth (put None) (put (Some n)) s (primitive 2 number) (int_content (pos n)) more
          (context false number (omega (arith, low))) (omega (arith, int_fits (pos n))) d h t

  flag_taken : (put : Option Bool → S) (s : S) (b : Bool) (more : List ℕ)
      → ((at : ℕ) (r : List ℕ) → step (put None) (lent at depth (primitive 2 2) (int_content (pos 1)) r) ≡ Ok
      (put (Some true)))
      → Taken step depth (put (flagged b)) more s → Taken step depth (put None) (canon_flag 2 b ++ more) s
  flag_taken put s true more h t = one_taken step depth (put None) (put (Some true)) s (primitive 2 2)
      (int_content (pos 1)) more (context false 2 (omega arith)) (omega (arith, int_fits (pos 1))) d h t
  flag_taken put s false more h t = t

-- ---- RTORQ

abbrev request_parts : Option ℕ → Option ℕ → Option Bool → Option Request → RequestParts
request_parts checkpoint window twa request =
    record { checkpoint = checkpoint; window = window; twa = twa; request = request; protocol = false }

abbrev pub request_content : ℕ → ℕ → Bool → Request → List ℕ
request_content c w b q = canon_unless 0 0 c ++ canon_unless default_window 1 w ++ canon_flag 2 b
    ++ element (constructed 2 3) (canon_request_data q)

abbrev requested : ℕ → RequestParts → Result OpenRequest Fault
requested at s = required s.request at >>= λ r. Ok
    (record {
      checkpoint = unwrap_or s.checkpoint 0;
      window = unwrap_or s.window default_window;
      twa =
          unwrap_or s.twa false;
      request = r;
    })

module _ (c w : ℕ) (b : Bool) (q : Request) (small_c : c < 2 ^ 32) (small_w : w < 2 ^ 32) (h : IsReadAgain q)
    (fits : length (canon_request_data q) < 2 ^ 64) where
  first_taken : (at : ℕ) (r : List ℕ)
      → rtorq_step (request_parts None None None None) (lent at 2 (primitive 2 0) (int_content (pos c)) r) ≡ Ok
      (request_parts (Some c) None None None)
  unfolding rtorq_step
  first_taken at r = ap (λ x. x >>= λ n. Ok (request_parts (Some n) None None None))
      (number_again c small_c at 2 2 0 r (omega arith))

  second_taken : (o : Option ℕ) (at : ℕ) (r : List ℕ)
      → rtorq_step (request_parts o None None None) (lent at 2 (primitive 2 1) (int_content (pos w)) r) ≡ Ok
      (request_parts o (Some w) None None)
  unfolding rtorq_step
  second_taken o at r = ap (λ x. x >>= λ n. Ok (request_parts o (Some n) None None))
      (number_again w small_w at 2 2 1 r (omega arith))

  third_taken : (o p : Option ℕ) (at : ℕ) (r : List ℕ)
      → rtorq_step (request_parts o p None None) (lent at 2 (primitive 2 2) (int_content (pos 1)) r) ≡ Ok
      (request_parts o p (Some true) None)
  unfolding rtorq_step
  third_taken o p at r = ap (λ x. x >>= λ b. Ok (request_parts o p (Some b) None)) (flag_again at 2 r (omega arith))

  fourth_taken : (o p : Option ℕ) (f : Option Bool) (at : ℕ) (r : List ℕ)
      → rtorq_step (request_parts o p f None) (lent at 2 (constructed 2 3) (canon_request_data q) r) ≡ Ok
      (request_parts o p f (Some q))
  unfolding rtorq_step
  fourth_taken o p f at r = ap (λ x. x >>= λ q. Ok (request_parts o p f (Some q)))
      (request_data_again q h at 2 3 r (omega arith))

  abbrev last_request : RequestParts
  last_request = request_parts (given 0 c) (given default_window w) (flagged b) (Some q)

  request_taken : Taken rtorq_step 2 no_request
      (canon_unless 0 0 c ++ (canon_unless default_window 1 w
      ++ (canon_flag 2 b ++ element (constructed 2 3) (canon_request_data q)))) last_request
  request_taken =
      unless_taken rtorq_step 2 (omega arith) (λ o. request_parts o None None None) last_request 0 0 c
      (canon_unless default_window 1 w ++ (canon_flag 2 b ++ element (constructed 2 3) (canon_request_data q)))
      (omega arith) first_taken
      (unless_taken rtorq_step 2 (omega arith) (λ o. request_parts (given 0 c) o None None) last_request default_window
      1 w (canon_flag 2 b ++ element (constructed 2 3) (canon_request_data q)) (omega arith)
      (second_taken (given 0 c))
      (flag_taken rtorq_step 2 (omega arith) (λ o. request_parts (given 0 c) (given default_window w) o None)
      last_request b (element (constructed 2 3) (canon_request_data q))
      (third_taken (given 0 c) (given default_window w))
      (last_taken rtorq_step 2 (request_parts (given 0 c) (given default_window w) (flagged b) None) last_request
      (constructed 2 3) (canon_request_data q) (context true 3 (omega arith)) fits (omega arith)
      (fourth_taken (given 0 c) (given default_window w) (flagged b)))))

abbrev pub open_request : ℕ → ℕ → Bool → Request → OpenRequest
open_request checkpoint window twa r = record { checkpoint = checkpoint; window = window; twa = twa; request = r }

open_request_is : (c c' w w' : ℕ) (b b' : Bool) (r : Request) → c ≡ c' → w ≡ w' → b ≡ b'
    → open_request c w b r ≡ open_request c' w' b' r
open_request_is c c' w w' b b' r e f g = cc

regroup : (a b c d : List ℕ) → ((a ++ b) ++ c) ++ d ≡ a ++ (b ++ (c ++ d))
regroup a b c d = simp append_assoc

pub rtorq_again : (c w : ℕ) (b : Bool) (q : Request) → c < 2 ^ 32 → w < 2 ^ 32 → IsReadAgain q
    → length (canon_request_data q) < 2 ^ 64 → (at : ℕ) (r : List ℕ)
    → rtorq_in (lent at 1 (constructed 2 16) (request_content c w b q) r) ≡ Ok (open_request c w b q)
unfolding rtorq_in rtorq_parts_in
rtorq_again c w b q small_c small_w h fits at r =
    let whole = lent at 1 (constructed 2 16) (request_content c w b q) r in
    let last = last_request c w b q small_c small_w h fits in
    let taken = subst (λ bytes. Taken rtorq_step 2 no_request bytes last)
    (sym (regroup (canon_unless 0 0 c) (canon_unless default_window 1 w) (canon_flag 2 b)
    (element (constructed 2 3) (canon_request_data q)))) (request_taken c w b q small_c small_w h fits) in
    ap (λ r. r >>= requested at) (whole_taken rtorq_step no_request last whole taken)
    ∙ ap (λ (x : OpenRequest). Ok x)
    (open_request_is _ _ _ _ _ _ q (given_is 0 c) (given_is default_window w) (flagged_is b))

-- ---- RTOAC

abbrev answer_parts : Option ℕ → Option ℕ → Option Answer → AnswerParts
answer_parts checkpoint window answer = record { checkpoint = checkpoint; window = window; answer = answer }

abbrev pub answer_content : ℕ → ℕ → Answer → List ℕ
answer_content c w a = canon_unless 0 0 c ++ canon_unless default_window 1 w
    ++ element (constructed 2 2) (canon_answer_data a)

abbrev answered : ℕ → AnswerParts → Result OpenAnswer Fault
answered at s = required s.answer at >>= λ a. Ok
    (record { checkpoint = unwrap_or s.checkpoint 0; window = unwrap_or s.window default_window; answer = a })

abbrev pub open_answer : ℕ → ℕ → Answer → OpenAnswer
open_answer checkpoint window a = record { checkpoint = checkpoint; window = window; answer = a }

open_answer_is : (c c' w w' : ℕ) (a : Answer) → c ≡ c' → w ≡ w' → open_answer c w a ≡ open_answer c' w' a
open_answer_is c c' w w' a e f = cc

module _ (c w : ℕ) (a : Answer) (small_c : c < 2 ^ 32) (small_w : w < 2 ^ 32) (h : IsReadAgain (request_of a))
    (fits : length (canon_answer_data a) < 2 ^ 64) where
  checkpoint_taken : (at : ℕ) (r : List ℕ)
      → rtoac_step (answer_parts None None None) (lent at 2 (primitive 2 0) (int_content (pos c)) r) ≡ Ok
      (answer_parts (Some c) None None)
  unfolding rtoac_step
  checkpoint_taken at r = ap (λ x. x >>= λ n. Ok (answer_parts (Some n) None None))
      (number_again c small_c at 2 2 0 r (omega arith))

  window_taken : (o : Option ℕ) (at : ℕ) (r : List ℕ)
      → rtoac_step (answer_parts o None None) (lent at 2 (primitive 2 1) (int_content (pos w)) r) ≡ Ok
      (answer_parts o (Some w) None)
  unfolding rtoac_step
  window_taken o at r = ap (λ x. x >>= λ n. Ok (answer_parts o (Some n) None))
      (number_again w small_w at 2 2 1 r (omega arith))

  answer_taken : (o p : Option ℕ) (at : ℕ) (r : List ℕ)
      → rtoac_step (answer_parts o p None) (lent at 2 (constructed 2 2) (canon_answer_data a) r) ≡ Ok
      (answer_parts o p (Some a))
  unfolding rtoac_step
  answer_taken o p at r = ap (λ x. x >>= λ a. Ok (answer_parts o p (Some a)))
      (answer_data_again a h at 2 2 r (omega arith))

  abbrev last_answer : AnswerParts
  last_answer = answer_parts (given 0 c) (given default_window w) (Some a)

  answers_taken : Taken rtoac_step 2 no_answer
      (canon_unless 0 0 c ++ (canon_unless default_window 1 w ++ element (constructed 2 2) (canon_answer_data a)))
      last_answer
  answers_taken =
      unless_taken rtoac_step 2 (omega arith) (λ o. answer_parts o None None) last_answer 0 0 c
      (canon_unless default_window 1 w ++ element (constructed 2 2) (canon_answer_data a))
      (omega arith) checkpoint_taken
      (unless_taken rtoac_step 2 (omega arith) (λ o. answer_parts (given 0 c) o None) last_answer default_window 1 w
      (element (constructed 2 2) (canon_answer_data a)) (omega arith) (window_taken (given 0 c))
      (last_taken rtoac_step 2 (answer_parts (given 0 c) (given default_window w) None) last_answer (constructed 2 2)
      (canon_answer_data a) (context true 2 (omega arith)) fits (omega arith)
      (answer_taken (given 0 c) (given default_window w))))

pub rtoac_again : (c w : ℕ) (a : Answer) → c < 2 ^ 32 → w < 2 ^ 32 → IsReadAgain (request_of a)
    → length (canon_answer_data a) < 2 ^ 64 → (at : ℕ) (r : List ℕ)
    → rtoac_in (lent at 1 (constructed 2 17) (answer_content c w a) r) ≡ Ok (open_answer c w a)
unfolding rtoac_in rtoac_parts_in
rtoac_again c w a small_c small_w h fits at r =
    let whole = lent at 1 (constructed 2 17) (answer_content c w a) r in
    let last = last_answer c w a small_c small_w h fits in
    let taken = subst (λ bytes. Taken rtoac_step 2 no_answer bytes last) (sym (simp append_assoc))
    (answers_taken c w a small_c small_w h fits) in
    ap (λ r. r >>= answered at) (whole_taken rtoac_step no_answer last whole taken)
    ∙ ap (λ (x : OpenAnswer). Ok x) (open_answer_is _ _ _ _ a (given_is 0 c) (given_is default_window w))

-- ---- RTORJ and RTAB

abbrev reason_parts : Bool → Option ℕ → ReasonParts
reason_parts aborts reason = record { aborts = aborts; reason = reason; first = false; second = false }

reason_taken : (aborts : Bool) (n : ℕ) → n < 2 ^ 32 → (at : ℕ) (r : List ℕ)
    → reason_step (reason_parts aborts None) (lent at 2 (primitive 2 0) (int_content (pos n)) r) ≡ Ok
    (reason_parts aborts (Some n))
unfolding reason_step
reason_taken aborts n small at r =
    ap (λ x. x >>= λ n. Ok (reason_parts aborts (Some n))) (number_again n small at 2 2 0 r (omega arith))

reason_again : (aborts : Bool) (n number : ℕ) → n < 2 ^ 32 → (at : ℕ) (r : List ℕ)
    → reason_in aborts (lent at 1 (constructed 2 number) (canon_int (primitive 2 0) (pos n)) r) ≡ Ok n
unfolding reason_in
reason_again aborts n number small at r =
    let whole = lent at 1 (constructed 2 number) (canon_int (primitive 2 0) (pos n)) r in
    let taken = last_taken reason_step 2 (reason_parts aborts None) (reason_parts aborts (Some n)) (primitive 2 0)
    (int_content (pos n)) (context false 0 (omega arith)) (omega (arith, int_fits (pos n))) (omega arith)
    (reason_taken aborts n small) in
    ap (λ r. r >>= λ (s : ReasonParts). Ok (unwrap_or s.reason 0))
    (whole_taken reason_step (reason_parts aborts None) (reason_parts aborts (Some n)) whole taken)

pub rtorj_again : (n : ℕ) → n < 2 ^ 32 → (at : ℕ) (r : List ℕ)
    → rtorj_in (lent at 1 (constructed 2 18) (canon_int (primitive 2 0) (pos n)) r) ≡ Ok n
unfolding rtorj_in
rtorj_again n small at r = reason_again false n 18 small at r

pub rtab_again : (n : ℕ) → n < 2 ^ 32 → (at : ℕ) (r : List ℕ)
    → rtab_in (lent at 1 (constructed 2 22) (canon_int (primitive 2 0) (pos n)) r) ≡ Ok n
unfolding rtab_in
rtab_again n small at r = reason_again true n 22 small at r
