-- Texts that are put part by part.
use Rattle.std.proofs.Common.{◌≡◌, append_assoc, ℕ, List, ◌++◌, length, refl, ap, ◌∙◌, arith}
use Rattle.std.proofs.lemmas.List.{length-append}
use Rattle.mta_edge.specs.Outside.{Goes, Goes-then, Goes-map}
use Rattle.mta_edge.specs.Streams.{TakesFront}
use Rattle.std.proofs.Common.{Option, Result, Ok, Err, true, false, sym, subst}
use Rattle.std.specs.Prelude.{OnErr, OnOk, codes, is_err}
use Rattle.mta_edge.specs.Causes.{HasCause}
use Rattle.mta_edge.specs.Views.{SinkView}
use Rattle.mta_edge.specs.declared.outside.Failed.{Failed}
use Rattle.mta_output.specs.Output.{HasPrinted, Output, PrintsFront, output}
use Rattle.mta_follow_run.specs.Output.{HasPut}
use Rattle.mta_output.specs.Output.{cut as printed_cut, whole as printed_whole}
use Rattle.mta_follow_run.specs.Stops.{kept_text, last_number, line_of, status_by, status_of}
use Rattle.mta_follow_run.specs.declared.stop.Stop.{Stop}
use Rattle.mta_follow_run.specs.declared.stop.Stop.TheVariants as Stops

-- a front of the first part is one of both
front_first : (a b f g : List ℕ) → TakesFront a f g → TakesFront (a ++ b) f g
front_first a b f g t = (
  t.0 ++ b,
  record {
    whole =
        sym (append_assoc g t.0 b) ∙ ap (λ (l : List ℕ). l ++ b) t.1.whole ∙ append_assoc f a b;
    longer = t.1.longer;
  },
)

-- the first part, and a front of the second
front_second : (a b f g h : List ℕ) → g ≡ f ++ a → TakesFront b g h → TakesFront (a ++ b) f h
front_second a b f g h is t = (
  t.0,
  record {
    whole =
        t.1.whole ∙ ap (λ (l : List ℕ). l ++ b) is ∙ append_assoc f a b;
    longer = omega (arith, t.1.longer, ap length is, length-append f a);
  },
)

pub goes_both : {x y z : Option (List ℕ)} (a b : List ℕ) → Goes (λ f g. g ≡ f ++ a) x y → Goes (λ f g. g ≡ f ++ b) y z
    → Goes (λ f g. g ≡ f ++ (a ++ b)) x z
goes_both a b p q = Goes-then (λ f g h told one two. two ∙ ap (λ (l : List ℕ). l ++ b) one ∙ append_assoc f a b) p q

pub goes_first : {x y : Option (List ℕ)} (a b : List ℕ) → Goes (TakesFront a) x y → Goes (TakesFront (a ++ b)) x y
goes_first a b p = Goes-map refl refl (λ f g told t. front_first a b f g t) p

pub goes_second : {x y z : Option (List ℕ)} (a b : List ℕ) → Goes (λ f g. g ≡ f ++ a) x y → Goes (TakesFront b) y z
    → Goes (TakesFront (a ++ b)) x z
goes_second a b p q = Goes-then (λ f g h told one two. front_second a b f g h one two) p q

-- ---- what putting them leaves

pub as_put : {O : Type 0} (sinks : SinkView O) (x y : O) (text : List ℕ) (r : Result Unit Failed)
    → OnOk r (Goes (λ f g. g ≡ f ++ text) (sinks.taken x) (sinks.taken y))
    → OnErr r (Goes (TakesFront text) (sinks.taken x) (sinks.taken y)) → HasCause (sinks.faults x) (sinks.faults y) r
    → HasPut text (output sinks x y) r
as_put sinks x y text (Ok t) whole front cause = record { whole = whole; front = tt; later = cause.later }
as_put sinks x y text (Err e) whole front cause =
    record { whole = tt; front = (cause.failed, front); later = cause.later }

-- the first part was cut off
pub put_cut : (a b : List ℕ) (out : Output) (r s : Result Unit Failed) (e y : Failed) → r ≡ Err e → s ≡ Err y
    → HasPut a out r → HasPut (a ++ b) out s
put_cut a b out r s e y was is h =
    let put : HasPut a out (Err e) = subst (HasPut a out) was h in
    subst (HasPut (a ++ b) out) (sym is)
    (record { whole = tt; front = (put.front.0, goes_first a b put.front.1); later = put.later })

-- behind the first part the second is put, or is cut off
pub put_then : {O : Type 0} (sinks : SinkView O) (x y z : O) (a b : List ℕ) (q r : Result Unit Failed) (t : Unit {0})
    → q ≡ Ok t → HasPut a (output sinks x y) q → HasPut b (output sinks y z) r → HasPut (a ++ b) (output sinks x z) r
put_then sinks x y z a b q r t was h k = by r k (subst (HasPut a (output sinks x y)) was h)
  where
    by : (r : Result Unit Failed) → HasPut b (output sinks y z) r → HasPut a (output sinks x y) (Ok t)
        → HasPut (a ++ b) (output sinks x z) r
    by (Ok u) k h =
        record { whole = goes_both a b h.whole k.whole; front = tt; later = omega (arith, h.later, k.later) }
    by (Err e) k h =
        record {
          whole = tt;
          front = (omega (arith, h.later, k.front.0), goes_second a b h.whole k.front.1);
          later = omega (arith, h.later, k.later);
        }

-- ---- the lines

pub at_line : (stop other : Stop) (text : List ℕ) (out : Output) (r : Result Unit Failed) → stop ≡ other
    → line_of other ≡ text → HasPut text out r → HasPut (line_of stop) out r
at_line stop other text out r is line h =
    subst (λ (l : List ℕ). HasPut l out r) (sym (ap line_of is ∙ line)) h

pub line_usage : line_of Stops.Usage ≡ codes "usage: mta_follow push HOST PORT or pull PORT\n"
unfolding line_of
line_usage = refl

pub line_not_spool : (at : ℕ) → line_of (Stops.NotSpool at) ≡ codes "not a spool at " ++ last_number at
unfolding line_of
line_not_spool at = refl

pub line_disk : line_of Stops.Disk ≡ codes "disk fault\n"
unfolding line_of
line_disk = refl

pub line_diverged : (number : ℕ) → line_of (Stops.Diverged number) ≡ codes "diverged at " ++ last_number number
unfolding line_of
line_diverged number = refl

-- ---- what a standby prints

-- how many were kept was cut off
pub kept_cut : (kept : ℕ) (ended : Result Unit Stop) (out : Output) (r : Result Unit Failed) → is_err r ≡ true
    → HasPut (codes "kept " ++ last_number kept) out r → PrintsFront out (kept_text kept ended)
unfolding kept_text
kept_cut kept (Ok t) out (Ok u) failed h = absurd cc
kept_cut kept (Ok t) out (Err e) failed h = h.front
kept_cut kept (Err stop) out (Ok u) failed h = absurd cc
kept_cut kept (Err stop) out (Err e) failed h =
    (h.front.0, goes_first (codes "kept " ++ last_number kept) (line_of stop) h.front.1)

-- and behind it stands why not all came
pub kept_told : {O : Type 0} (sinks : SinkView O) (x y z : O) (kept status : ℕ) (stop : Stop)
    (ended : Result Unit Stop) (r : Result Unit Failed) → ended ≡ Err stop → is_err r ≡ false
    → HasPut (codes "kept " ++ last_number kept) (output sinks x y) r
    → HasPrinted (line_of stop) (status_of stop) (output sinks y z) status
    → HasPrinted (kept_text kept ended) (status_by ended) (output sinks x z) status
unfolding kept_text
kept_told sinks x y z kept status stop ended r is good h k =
    subst (λ (o : Result Unit Stop). HasPrinted (kept_text kept o) (status_by o) (output sinks x z) status) (sym is)
    (by r good h k)
  where
    by : (r : Result Unit Failed) → is_err r ≡ false → HasPut (codes "kept " ++ last_number kept) (output sinks x y) r
        → HasPrinted (line_of stop) (status_of stop) (output sinks y z) status
        → HasPrinted (kept_text {T = Unit {0}} kept (Err stop)) (status_of stop) (output sinks x z) status
    by (Err e) good h k = absurd cc
    by (Ok t) good h (printed_whole is p) =
        printed_whole is (goes_both (codes "kept " ++ last_number kept) (line_of stop) h.whole p)
    by (Ok t) good h (printed_cut is p) =
        printed_cut is
        (omega (arith, h.later, p.0), goes_second (codes "kept " ++ last_number kept) (line_of stop) h.whole p.1)
