-- Exactly the trees that some text reads as are proper.
use Rattle.st_text_laws.proofs.TextReads.{canonical_text_reads}
use Rattle.st_text_laws.specs.Canonical.{source_of}
use Rattle.st_grammar.specs.Grammar.{raw_tree}
use Rattle.st_parser.specs.TextLaws.{ProperReadsBack, Rereads, WhatIsReadIsProper}
use Rattle.st_text_laws.proofs.Whole.{proper_has_form}
use Rattle.st_text_laws.specs.CanonicalForms.{HasCanonicalForm}
use Rattle.st_text_laws.proofs.ReadProper.{read_proper}

-- the canonical text of a proper tree reads as the tree
pub proper_reads : ProperReadsBack
proper_reads tree proper =
    let form : HasCanonicalForm tree = proper_has_form tree proper in
    record {
      raw = raw_tree (source_of tree);
      reads = canonical_text_reads tree form.fits form.spelled form.within;
      typed = form.typed;
    }

-- what a text reads as is proper
pub what_is_read_is_proper : WhatIsReadIsProper
what_is_read_is_proper bytes tree reads = read_proper bytes reads.raw tree reads.reads reads.typed

-- so its canonical text reads as it
pub rereads : Rereads
rereads bytes tree reads = proper_reads tree (what_is_read_is_proper bytes tree reads)
