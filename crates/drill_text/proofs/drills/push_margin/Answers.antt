use Rattle.std.proofs.Common.{ap, refl, subst, ◌++◌, ◌∙◌}
use Rattle.margin_solve.specs.Certificates.{IsCertOf}
use Rattle.text_lines.specs.Words.{line_text}
use Rattle.drill_text.specs.Drills.{drill_line, drill_words}
use Rattle.drill_text.specs.declared.limits.TheConstants.{DRILL_BUDGET}
use Rattle.drill_text.proofs.drills.push_margin.Goals as goal

pub returns : goal.returns
returns c seed same = (
  drill_line c.args.rule c.in_ok-cert.cert,
  record {
    cert = c.in_ok-cert.cert;
    found = subst (λ p. IsCertOf c.args.rule DRILL_BUDGET p c.in_ok-cert.cert) same c.in_ok-cert.ensures.found;
    told = refl;
    bounds = c.is_bounds.ensures;
  },
  c.in_ok-push_line.ensures ∙ ap (λ n. c.args.text.now.items ++ line_text (drill_words c.args.rule c.in_ok-cert.cert.claim n)) c.nodes.ensures.count,
)
