use Rattle.clay_model.proofs.Worked.{unpaired_codeword, paired_codeword, virtual_codeword, unpaired_values, paired_values, virtual_values}
use Rattle.clay_model.proofs.laws_of_codewords.worked_codewords.Goals as goal

pub returns-clause-unpaired : goal.returns-clause-unpaired
returns-clause-unpaired c = unpaired_codeword

pub returns-clause-unpaired_values : goal.returns-clause-unpaired_values
returns-clause-unpaired_values c = unpaired_values

pub returns-clause-paired : goal.returns-clause-paired
returns-clause-paired c = paired_codeword

pub returns-clause-paired_values : goal.returns-clause-paired_values
returns-clause-paired_values c = paired_values

pub returns-clause-with_virtual : goal.returns-clause-with_virtual
returns-clause-with_virtual c = virtual_codeword

pub returns-clause-with_virtual_values : goal.returns-clause-with_virtual_values
returns-clause-with_virtual_values c = virtual_values
