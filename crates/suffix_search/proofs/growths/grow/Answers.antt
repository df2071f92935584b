use Rattle.std.proofs.Common.{subst, sym, arith}
use Rattle.goal_rows.specs.Goals.{IsElection}
use Rattle.suffix_search.specs.Searches.{AreKids, MayGrowAt}
use Rattle.suffix_search.proofs.Results.{on_ok}
use Rattle.suffix_search.proofs.Steps.{is_leaf, may_grow_at, nearer, place_within, still_running}
use Rattle.suffix_search.proofs.Walking.{cuts_within}
use Rattle.suffix_search.proofs.growths.grow.Goals as goal

pub cut_number-number-requires : goal.cut_number-number-requires
cut_number-number-requires c =
    let s = c.requires.search in
    place_within s.0 c.args.tree.now c.args.leaves.now.items c.args.place (subst IsElection (sym s.1) c.requires.race.election) s.3 s.4 s.5

pub overflow_cast-place : goal.overflow_cast-place
overflow_cast-place c =
    let s = c.requires.search in
    let place = place_within s.0 c.args.tree.now c.args.leaves.now.items c.args.place (subst IsElection (sym s.1) c.requires.race.election) s.3 s.4 s.5 in
    let cuts = cuts_within c.args.tree.now in
    let few = s.4.within in
    let most = s.2 in
    omega (arith, place, cuts, few, most)

pub kids_at-requires-clause-leaf : goal.kids_at-requires-clause-leaf
kids_at-requires-clause-leaf c =
    let s = c.requires.search in
    let election = subst IsElection (sym s.1) c.requires.race.election in
    let leaf = c.index.result.now in
    let read = is_leaf s.0 c.args.tree.now c.args.leaves.now.items c.args.place election s.3 s.4 s.5 leaf c.index.ensures in
    let may = may_grow_at s.0 c.args.tree.now c.args.leaves.now.items c.args.place election s.3 s.4 s.5 s.2 in
    let at = subst (λ n. MayGrowAt s.0.election s.5.leaf n c.args.tree.now) (sym c.cut_number-number.ensures.value) may in
    subst (λ e. MayGrowAt e leaf c.cut_number-number.result c.args.tree.now) s.1 (subst (λ x. MayGrowAt s.0.election x c.cut_number-number.result c.args.tree.now) (sym read) at)

pub returns-clause-search : goal.returns-clause-search
returns-clause-search c = λ p same most known running grows.
    let election = subst IsElection (sym same) c.requires.race.election in
    let leaf = c.index.result.now in
    let kids = c.in_ok-kids.kids.items in
    let after = c.kids_at.new.tree in
    let read = is_leaf p c.args.tree.now c.args.leaves.now.items c.args.place election known running grows leaf c.index.ensures in
    let are = subst (λ e. AreKids e leaf c.cut_number-number.result c.args.tree.now after kids) (sym same) c.in_ok-kids.ensures in
    let own = subst (λ x. AreKids p.election x c.cut_number-number.result c.args.tree.now after kids) read are in
    let placed = subst (λ n. AreKids p.election grows.leaf n c.args.tree.now after kids) c.cut_number-number.ensures.value own in
    on_ok c.put_in.result _ _ c.put_in.ensures (λ now. still_running p c.args.tree.now c.args.leaves.now.items c.args.place election known running grows after kids c.put_in.new.leaves.items placed now)

pub returns-clause-nearer : goal.returns-clause-nearer
returns-clause-nearer c = λ p same most known running grows.
    let election = subst IsElection (sym same) c.requires.race.election in
    let leaf = c.index.result.now in
    let kids = c.in_ok-kids.kids.items in
    let after = c.kids_at.new.tree in
    let read = is_leaf p c.args.tree.now c.args.leaves.now.items c.args.place election known running grows leaf c.index.ensures in
    let are = subst (λ e. AreKids e leaf c.cut_number-number.result c.args.tree.now after kids) (sym same) c.in_ok-kids.ensures in
    let own = subst (λ x. AreKids p.election x c.cut_number-number.result c.args.tree.now after kids) read are in
    let placed = subst (λ n. AreKids p.election grows.leaf n c.args.tree.now after kids) c.cut_number-number.ensures.value own in
    on_ok c.put_in.result _ _ c.put_in.ensures (λ now. nearer p c.args.tree.now c.args.leaves.now.items c.args.place election known running grows after kids c.put_in.new.leaves.items placed now)
