-- No steps are what the new value shows. Assumes `Logic`.
use Rattle.std.proofs.Common.{[], ◌∷◌, refl}
use Rattle.std.proofs.raw_atomic.Walks.{proved}
use mir.Val.{Val, vstruct, vnil}
use types.Kit.{‵, raw, ◌$◌, ◌∵◌, !, qed, done, drop, use0, suffices, group}
use types.Part.{agg}
use types.Run.{enter, no_more, returns}
use types.ByLocal.{alloc_all, pass_all, free_all, look_at, sets}
use denote.Shadow.{makes_shadow}
use denote.Steps.{nothing}
use denote.Triple.Entry.{on_entry}
use denote.Triple.Walked.{Stays, says, walk_of, ends_at}
use Rattle.mta_spool.specs.contracts.entries.Entries.{the_row}
use Rattle.mta_spool.specs.contracts.entries.Entries.new as f
use Rattle.mta_spool.proofs.entries.Entries.new.Statement.{statement}
use Rattle.mta_spool.proofs.entries.Entries.new.Code as code

abbrev stayed : Stays f.ended.signature.params f.ended.kept
stayed = tt

-- the machine's value, which has no part
abbrev bare : Val
bare = vstruct vnil

pub new_spec : {M : Type 1} → statement M
new_spec 𝓤 𝓛 𝓜 𝓡 wired =
    let c = f.clauses 𝓛 𝓜.mem 𝓡.returns in let W = walk_of 𝓛 f.ended stayed c in
    proved 𝓛 f.ended stayed c 𝓜 𝓡 tt f.Key.name code.function (code.unfolded 𝓤 𝓛.H 𝓜 𝓡 wired)
    (λ κs. tt) (λ κs. tt) (λ κs qs bounds a n are.
    let y : W.Ghost = ((κs, qs, bounds, a, tt), n) in
    let none : the_row.Denot = record { steps = [] } in
    qed 𝓛 (raw (on_entry 𝓛 f.signature κs qs a y.0.4) ∷ raw ((c κs a).requires n) ∷ []) ∵ drop ! $ drop ! $
    enter ! _ _ _ _ _ $ alloc_all ! (λ l. pass_all ! refl tt $
    sets ! (agg ! (no_more !)) refl (tt, tt) $
    returns ! (look_at ! 0 refl) $ free_all ! refl $
    suffices ! _ (ends_at 𝓛 f.ended stayed c y bare none tt tt) $ says ! refl $
    use0 𝓛 (‵ (the_row.own_val none (bare ∷ [])))
    (makes_shadow 𝓛 (the_row.own_val none (bare ∷ [])) ((λ vss. (tt, tt)), tt) ((tt, (refl, tt)), tt)) $
    nothing ! $ nothing ! $ group ! 3 $ done !))
