-- The values of an answer as the program holds them, and as the definition has them. Assumes nothing.
use Rattle.model.specs.Answer.{Summary}
use Rattle.report.specs.declared.Figures.{Figures}

abbrev pub summary_of : Figures → Summary
summary_of f =
    record {
      number = f.number;
      place = f.place;
      count = f.count;
      actual = f.actual;
      marks = f.marks;
      deferred = f.deferred;
      simplified = f.simplified;
    }
