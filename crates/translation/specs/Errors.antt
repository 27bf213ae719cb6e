-- Own: what a fault of a reading, or a lack of a translation, is for a body.
use Rattle.order_meaning.specs.declared.fault.Fault.{Fault}
use Rattle.order_meaning.specs.declared.fault.Fault.TheVariants as faults
use Rattle.order_meaning.specs.declared.fault.Lack.{Lack}
use Rattle.order_meaning.specs.declared.fault.Lack.TheVariants as lacks
use Rattle.translation.specs.declared.error.TranslateError.{TranslateError}
use Rattle.translation.specs.declared.error.TranslateError.TheVariants as errors

abbrev pub error_of_fault : Fault → TranslateError
error_of_fault faults.NoMemory = errors.NoMemory
error_of_fault fault = errors.Faulty fault

abbrev pub error_of_lack : Lack → TranslateError
error_of_lack lacks.NoMemory = errors.NoMemory
error_of_lack (lacks.Tag tag) = errors.Lacking tag
