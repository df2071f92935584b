use Rattle.std.proofs.Common.{arith, ap, sym, ◌∙◌, subst, refl, ◌≡◌, ◌≢◌, ℕ, Some, None}
use Rattle.std.proofs.lemmas.List.{get_or_read}
use Rattle.pivot_form.specs.declared.places.Place.TheVariants.{Kept, Paired}
use Rattle.pivot_form.specs.Kept.{pair_of, place_of, table_of}
use Rattle.pivot_form.specs.Shorts.{IsShort, store_of}
use Rattle.pivot_form.proofs.Steps.{flipped_short, stands_alone}
use Rattle.pivot_form.proofs.exchanges.unpair.Goals as goal

pub returns-in-Kept-clause-short : goal.returns-in-Kept-clause-short
returns-in-Kept-clause-short c =
    let s = store_of c.args.short.now in
    let places = c.args.short.now.places.items in
    let paired : place_of s c.args.basic ≡ Paired = sym (get_or_read places c.args.basic c.index.result.now c.requires.basic.within c.index.ensures Paired) ∙ c.in-Paired-Some.is-0 in
    let pair : pair_of s c.args.basic ≡ Some c.in-Paired-Some.pair = sym (get_or_read c.args.short.now.pairs.items c.args.basic c.index-2.result.now (omega (arith, c.requires.basic.within, c.requires.short.store.all_pairs)) c.index-2.ensures None) ∙ c.in-Paired-Some.is-1 in
    let good = c.requires.short.store.pairs c.args.basic c.in-Paired-Some.pair c.requires.basic.within pair in
    let other : place_of s c.in-Paired-Some.pair.other ≡ Kept c.in-Kept.slot = sym (get_or_read places c.in-Paired-Some.pair.other c.index-3.result.now good.0 c.index-3.ensures Paired) ∙ c.in-Kept.is in
    let made = flipped_short s c.args.basic c.in-Paired-Some.pair c.in-Kept.slot c.requires.short c.requires.basic.within paired pair other in
    subst IsShort (sym c.flip.ensures) made.0

pub returns-in-Kept-clause-same : goal.returns-in-Kept-clause-same
returns-in-Kept-clause-same c =
    let s = store_of c.args.short.now in
    let places = c.args.short.now.places.items in
    let paired : place_of s c.args.basic ≡ Paired = sym (get_or_read places c.args.basic c.index.result.now c.requires.basic.within c.index.ensures Paired) ∙ c.in-Paired-Some.is-0 in
    let pair : pair_of s c.args.basic ≡ Some c.in-Paired-Some.pair = sym (get_or_read c.args.short.now.pairs.items c.args.basic c.index-2.result.now (omega (arith, c.requires.basic.within, c.requires.short.store.all_pairs)) c.index-2.ensures None) ∙ c.in-Paired-Some.is-1 in
    let good = c.requires.short.store.pairs c.args.basic c.in-Paired-Some.pair c.requires.basic.within pair in
    let other : place_of s c.in-Paired-Some.pair.other ≡ Kept c.in-Kept.slot = sym (get_or_read places c.in-Paired-Some.pair.other c.index-3.result.now good.0 c.index-3.ensures Paired) ∙ c.in-Kept.is in
    let made = flipped_short s c.args.basic c.in-Paired-Some.pair c.in-Kept.slot c.requires.short c.requires.basic.within paired pair other in
    ap table_of c.flip.ensures ∙ made.1

pub returns-in_default-index : goal.returns-in_default-index
returns-in_default-index c =
    let s = store_of c.args.short.now in
    let places = c.args.short.now.places.items in
    let paired : place_of s c.args.basic ≡ Paired = sym (get_or_read places c.args.basic c.index.result.now c.requires.basic.within c.index.ensures Paired) ∙ c.in-Paired-Some.is-0 in
    let pair : pair_of s c.args.basic ≡ Some c.in-Paired-Some.pair = sym (get_or_read c.args.short.now.pairs.items c.args.basic c.index-2.result.now (omega (arith, c.requires.basic.within, c.requires.short.store.all_pairs)) c.index-2.ensures None) ∙ c.in-Paired-Some.is-1 in
    let good = c.requires.short.store.pairs c.args.basic c.in-Paired-Some.pair c.requires.basic.within pair in
    let other : (k : ℕ) → place_of s c.in-Paired-Some.pair.other ≢ Kept k = λ k e. c.in_default-index.not-Kept k (get_or_read places c.in-Paired-Some.pair.other c.index-3.result.now good.0 c.index-3.ensures Paired ∙ e) in
    record {
      short = c.requires.short;
      same = refl;
      width = refl;
      pairs = refl;
      basic = c.requires.basic;
      alone = stands_alone s c.args.basic c.in-Paired-Some.pair c.requires.short c.requires.basic.within paired pair other;
    }
