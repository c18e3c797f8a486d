use Rattle.std.proofs.Common.{◌≡◌, ◌+◌, ◌++◌, ◌∷◌, [], ℕ, List, take, ap, ◌∙◌}
use Rattle.mta_lanes.specs.Pieces.{octets_in, last_end}
use Rattle.mta_lanes.proofs.Cuts.{put_fits}
use Rattle.mta_lanes.proofs.pieces.Pieces.put.Goals as goal

pub invariant_of-self : goal.invariant_of-self
invariant_of-self c =
    let o = octets_in c.self.inside.held in
    let es = c.self.inside.ends.items in
    let front = last_end 0 (take c.args.count es) in
    let is : c.end_of-end.result ≡ front =
    c.end_of-end.ensures ∙ ap (λ (zs : List ℕ). last_end 0 (take c.args.count zs)) c.as_slice.ensures.value in
    put_fits c.args.count o es c.args.piece (octets_in c.put_behind.new.held) c.push_end.new.ends.items
    c.self.invariant.0 c.self.invariant.1
    (c.put_behind.ensures
    ∙ (ap (λ (k : ℕ). take k o ++ c.as_slice-2.result.now) is
    ∙ ap (λ (p : List ℕ). take front o ++ p) c.as_slice-2.ensures))
    (c.push_end.ensures
    ∙ (ap (λ (zs : List ℕ). zs ++ (c.end_of-end.result + c.len.result) ∷ []) c.truncate.ensures.items
    ∙ (ap (λ (k : ℕ). take c.args.count es ++ (k + c.len.result) ∷ []) is
    ∙ ap (λ (k : ℕ). take c.args.count es ++ (front + k) ∷ []) c.len.ensures)))
